pub mod EveryList
