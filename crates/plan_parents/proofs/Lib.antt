pub mod OneMore
pub mod Counts
