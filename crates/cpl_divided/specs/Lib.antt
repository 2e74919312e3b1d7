pub mod Fields
pub mod Steps
pub mod Buffers
pub mod Whole
