pub mod Settled
pub mod Claims
pub mod Delayed
pub mod DelayedExamples
pub mod Senders
pub mod Nobody
pub mod HopStep
