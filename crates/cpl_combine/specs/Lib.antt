pub mod Windows
pub mod Places
pub mod Cuts
pub mod Lists
