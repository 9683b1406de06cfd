-- What the proofs of several functions use.
mod Marks
mod ByKind
pub mod Facts
pub mod ByteMarks
