pub mod Sums
pub mod Figures
pub mod Meaning
pub mod Examples
