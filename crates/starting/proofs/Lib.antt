-- What the proofs of several functions use.
mod Finding
pub mod QueueLaws
mod ReachLaws
