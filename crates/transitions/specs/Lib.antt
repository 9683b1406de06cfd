pub mod Lent
pub mod Due
