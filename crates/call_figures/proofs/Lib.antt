pub mod AllLists
pub mod Reporting
