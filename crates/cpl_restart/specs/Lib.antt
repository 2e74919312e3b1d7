pub mod Numbers
pub mod Sections
pub mod AirBytes
pub mod Lawful
pub mod RestartBytes
pub mod SecondBytes
pub mod Counts
