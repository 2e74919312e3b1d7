pub mod Turns
pub mod Counts
pub mod Kept
pub mod Steps
pub mod Diamond
pub mod Ends
pub mod Happenings
