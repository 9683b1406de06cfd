pub mod Passed
pub mod Full
pub mod SamePort
