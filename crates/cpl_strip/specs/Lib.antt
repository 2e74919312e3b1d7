pub mod Holes
pub mod Strips
pub mod Faces
pub mod Tables
pub mod Rounds
pub mod Taken
pub mod Between
