pub mod Activate
pub mod Run
pub mod Examples
