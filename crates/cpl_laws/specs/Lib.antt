pub mod Once
pub mod Cells
