pub mod Numbers
pub mod Equations
pub mod OwnRoutes
pub mod Steady
pub mod Examples
