pub mod Sequences
pub mod Entries
pub mod Runs
pub mod TableBits
pub mod GradeMeans
pub mod Sharpness
