pub mod Parts
pub mod Numbered
pub mod Fits
pub mod Sums
pub mod OwnCells
pub mod OwnLoops
