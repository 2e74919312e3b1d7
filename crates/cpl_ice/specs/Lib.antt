pub mod Cells
pub mod Slow
