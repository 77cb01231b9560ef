pub mod Cycle
pub mod Follow
pub mod Examples
