pub mod TableBits
pub mod GradeMeans
