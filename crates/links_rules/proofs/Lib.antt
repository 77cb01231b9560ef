pub mod Examples
pub mod LeastSums
pub mod Facts
pub mod InOrder
pub mod Loops
pub mod Returns
pub mod SheetSizeExamples
pub mod Meaning
