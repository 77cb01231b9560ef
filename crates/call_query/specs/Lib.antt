pub mod EgressList
pub mod Relies
pub mod Size
pub mod Examples
