pub mod Figures
pub mod AllLists
