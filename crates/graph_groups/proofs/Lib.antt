pub mod Examples
pub mod Reaching
pub mod Sharing
pub mod RowGroups
pub mod RowClosure
