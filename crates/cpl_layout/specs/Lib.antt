pub mod Extents
pub mod Layouts
pub mod Pieces
pub mod Owners
pub mod Own
