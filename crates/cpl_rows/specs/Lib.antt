pub mod Rows
pub mod Lists
pub mod Ends
pub mod Found
