mod Sizes
pub mod Lists
