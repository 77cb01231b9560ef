pub mod Examples
pub mod Cycles
pub mod Serving
pub mod Sizes
pub mod HopSet
