pub mod Faults
pub mod Sums
pub mod Plans
pub mod PieceSums
pub mod Values
