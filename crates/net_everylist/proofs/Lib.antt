pub mod Keys
pub mod Words
pub mod Leading
pub mod Rows
pub mod Passes
pub mod Stepping
pub mod Answering
