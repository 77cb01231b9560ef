pub mod Peeling
pub mod Walking
pub mod EveryList
