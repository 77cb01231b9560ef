pub mod Marks
pub mod OtherList
