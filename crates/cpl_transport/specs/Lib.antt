pub mod Salts
pub mod Heights
pub mod Moves
pub mod Mixing
pub mod Cuts
pub mod Cells
