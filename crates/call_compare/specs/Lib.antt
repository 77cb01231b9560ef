pub mod Compare
pub mod Examples
