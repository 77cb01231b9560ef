pub mod ByRank
