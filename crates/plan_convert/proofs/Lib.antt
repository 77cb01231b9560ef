pub mod Places
pub mod Result
