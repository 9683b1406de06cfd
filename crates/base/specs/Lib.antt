-- What every definition uses.
pub mod Tests
pub mod Loops
pub mod Marks
pub mod Bits
pub mod Ranges
