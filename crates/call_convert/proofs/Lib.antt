pub mod Examples
pub mod Returned
