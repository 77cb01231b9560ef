pub mod Examples
pub mod OneActivation
pub mod Sequences
