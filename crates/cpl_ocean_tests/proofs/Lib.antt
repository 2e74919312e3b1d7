pub mod Little
pub mod Rests
pub mod Walls
