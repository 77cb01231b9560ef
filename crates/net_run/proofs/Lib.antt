pub mod Examples
pub mod Running
