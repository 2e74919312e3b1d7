pub mod Drives
pub mod Nothing
