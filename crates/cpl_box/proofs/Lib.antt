pub mod Words
pub mod Moves
pub mod Tries
pub mod Gives
pub mod Passes
pub mod Answered
pub mod Lists
pub mod Names
