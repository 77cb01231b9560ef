pub mod Decoded
pub mod FromPlan
pub mod WellFormed
pub mod Opened
pub mod RouterBytes
pub mod Examples
