pub mod Grades
pub mod Columns
pub mod Moves
