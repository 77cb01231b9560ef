pub mod OnePass
pub mod TwoPasses
pub mod Numbers
pub mod MayAdvertise
pub mod Acts
