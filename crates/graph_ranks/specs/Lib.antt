pub mod Rank
pub mod Search
pub mod Examples
