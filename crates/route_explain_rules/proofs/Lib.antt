pub mod Examples
pub mod Reasons
