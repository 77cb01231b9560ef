pub mod Examples
pub mod Granted
pub mod InOrder
pub mod RowsExactly
