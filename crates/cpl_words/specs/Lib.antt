pub mod Arguments
pub mod Words
pub mod Command
pub mod Found
