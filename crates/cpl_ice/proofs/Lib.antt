pub mod Amounts
pub mod Totals
pub mod Choices
pub mod Keeps
pub mod Steps
