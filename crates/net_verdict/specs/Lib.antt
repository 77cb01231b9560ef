pub mod Assessed
