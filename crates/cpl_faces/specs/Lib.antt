pub mod Orders
pub mod Faces
