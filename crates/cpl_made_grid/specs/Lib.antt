pub mod Stream
pub mod Shapes
pub mod Shares
pub mod Overlaps
pub mod Areas
pub mod Outlets
pub mod Grids
pub mod Made
