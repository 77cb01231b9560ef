pub mod Refusals
pub mod InOrder
pub mod Examples
pub mod RowsExactly
