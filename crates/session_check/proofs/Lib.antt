pub mod EmptySession
pub mod Few
