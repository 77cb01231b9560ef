pub mod Examples
pub mod RankRule
pub mod RankBuffer
