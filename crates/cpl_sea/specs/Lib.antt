pub mod Links
pub mod Lists
pub mod Passes
pub mod Blocks
pub mod Before
pub mod Rooms
pub mod Seas
