pub mod Rounds
pub mod Values
pub mod Blocks
