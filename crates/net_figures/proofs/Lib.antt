pub mod Counting
pub mod OneMore
