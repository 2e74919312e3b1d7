pub mod Faults
pub mod BoxFormat
pub mod Readers
pub mod Rules
pub mod Boxes
pub mod Reading
