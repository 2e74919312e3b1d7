pub mod Fields
pub mod Lines
pub mod Formats
pub mod Reading
pub mod Finding
pub mod Steps
