pub mod TableBytes
pub mod Examples
