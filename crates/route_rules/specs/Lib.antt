pub mod Instance
pub mod Preference
pub mod Activation
pub mod Rounds
pub mod Reliance
pub mod OneComparison
pub mod Examples
pub mod HopExamples
