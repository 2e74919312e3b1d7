pub mod Apart
pub mod Out
pub mod Across
pub mod Swept
pub mod Walks
