pub mod Sheet
pub mod Walks
pub mod Sums
pub mod Distances
pub mod SheetFacts
pub mod Examples
pub mod SheetSizeExamples
