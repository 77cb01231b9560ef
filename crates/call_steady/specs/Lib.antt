pub mod Steady
pub mod Examples
