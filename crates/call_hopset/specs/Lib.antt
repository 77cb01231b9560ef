pub mod HopSet
