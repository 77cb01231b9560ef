pub mod Explained
pub mod Reasons
pub mod Values
pub mod Examples
