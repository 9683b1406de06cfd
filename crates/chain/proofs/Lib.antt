pub mod ChainLaws
pub mod Begins
