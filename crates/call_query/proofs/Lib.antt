pub mod Examples
pub mod ListPart
pub mod Relying
pub mod Sizing
