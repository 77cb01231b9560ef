pub mod Margin
pub mod Examples
