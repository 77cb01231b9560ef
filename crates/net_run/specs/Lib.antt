pub mod Tallied
pub mod Applied
pub mod Examples
