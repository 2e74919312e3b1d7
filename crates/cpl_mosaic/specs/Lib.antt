pub mod Lists
pub mod Sides
pub mod Contacts
pub mod Mates
pub mod Cells
pub mod Table
