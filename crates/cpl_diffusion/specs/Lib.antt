pub mod Across
pub mod Steps
