pub mod Sums
pub mod Exchange
pub mod Mates
pub mod Conserved
pub mod Between
pub mod Across
