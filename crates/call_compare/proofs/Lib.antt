pub mod Examples
pub mod Preferring
