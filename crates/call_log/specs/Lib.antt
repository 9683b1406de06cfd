pub mod LogSlice
