pub mod Closure
pub mod Groups
pub mod Examples
