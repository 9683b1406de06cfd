pub mod Writings
pub mod Decimals
pub mod LogLines
pub mod Texts
