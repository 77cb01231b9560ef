pub mod Machine
pub mod Moving
pub mod Grade
pub mod Examples
