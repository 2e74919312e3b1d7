pub mod Temperatures
pub mod Elements
