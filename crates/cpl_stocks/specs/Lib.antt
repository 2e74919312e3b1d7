pub mod Lines
pub mod Writers
pub mod Fields
pub mod Tables
pub mod Partials
