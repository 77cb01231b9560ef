pub mod Examples
pub mod TableBytes
