pub mod Memo
pub mod ByteMarks
