pub mod Header
pub mod Contents
pub mod HeaderFacts
pub mod Examples
