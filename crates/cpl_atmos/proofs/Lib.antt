pub mod Stored
pub mod Divisors
pub mod Carried
pub mod Finished
