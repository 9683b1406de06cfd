pub mod Room
mod Reading
mod Records
pub mod Heads
