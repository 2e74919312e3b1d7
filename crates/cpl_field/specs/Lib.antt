pub mod Crossings
pub mod Spots
pub mod Sweeps
