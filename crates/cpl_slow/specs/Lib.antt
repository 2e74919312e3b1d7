pub mod Blocks
pub mod Land
pub mod Drains
pub mod Ice
pub mod Rooms
pub mod Sums
pub mod Steps
