pub mod Examples
pub mod FromConverted
pub mod FromPlan
pub mod Opened
pub mod RouterBytes
