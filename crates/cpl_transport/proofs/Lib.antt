pub mod Bounds
pub mod Columns
pub mod Exchanges
pub mod Frazil
pub mod Leaving
pub mod Odd
