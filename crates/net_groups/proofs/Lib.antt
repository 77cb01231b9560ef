pub mod Counted
pub mod Loops
