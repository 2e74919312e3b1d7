pub mod Sections
pub mod Starts
pub mod Texts
pub mod Inputs
