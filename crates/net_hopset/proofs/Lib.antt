pub mod Placing
pub mod Serving
pub mod Searching
