pub mod Examples
pub mod Walking
pub mod InGroup
pub mod Following
pub mod Placing
