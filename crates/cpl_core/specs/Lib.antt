pub mod Wires
pub mod Tries
pub mod Content
pub mod Plain
pub mod Run
pub mod Ready
