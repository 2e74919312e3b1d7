pub mod OneColumn
pub mod TwoCells
pub mod Pieces
