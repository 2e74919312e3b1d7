pub mod Groups
pub mod Lists
pub mod Rows
pub mod Rules
pub mod Indexes
pub mod Parents
pub mod Grids
