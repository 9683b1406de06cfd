-- What the proofs of several functions use.
mod Prelude
pub mod BelowLaws
pub mod Gathering
