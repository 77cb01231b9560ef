pub mod HopSet
pub mod Examples
