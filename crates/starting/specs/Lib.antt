pub mod Queues
pub mod Reaching
pub mod Reached
