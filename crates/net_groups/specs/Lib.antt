pub mod GroupRows
