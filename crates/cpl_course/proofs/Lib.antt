pub mod Seas
pub mod Budgets
pub mod Oceans
pub mod Taken
pub mod Coupling
pub mod Course
pub mod Totals
