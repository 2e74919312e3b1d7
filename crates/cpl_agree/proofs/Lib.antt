pub mod Faces
pub mod Around
pub mod Inside
pub mod Spots
pub mod Steps
pub mod Airs
