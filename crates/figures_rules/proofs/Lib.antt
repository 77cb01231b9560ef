pub mod Examples
pub mod Sums
pub mod GroupSizes
pub mod Meaning
pub mod SameLists
