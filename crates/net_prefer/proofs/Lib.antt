pub mod Measured
pub mod Step
