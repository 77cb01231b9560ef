pub mod ColumnWalks
pub mod Completing
pub mod Foremost
pub mod Gradings
