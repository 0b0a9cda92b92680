pub mod Readings
pub mod TextFacts
pub mod Placing
pub mod Adding
pub mod Optima
