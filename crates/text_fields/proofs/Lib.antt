pub mod Digits
pub mod Fields
pub mod Signed
pub mod Writing
