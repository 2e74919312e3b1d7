pub mod Picked
pub mod Added
pub mod Shared
pub mod Laws
pub mod Counted
pub mod Fitting
