pub mod Zeros
pub mod DocumentEnds
pub mod Slots
