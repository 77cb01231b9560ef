pub mod Fits
pub mod NearWords
pub mod Reached
