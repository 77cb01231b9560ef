pub mod Pairs
pub mod EveryList
pub mod Examples
