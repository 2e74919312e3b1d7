pub mod Fields
pub mod Oceans
pub mod OceanSteps
pub mod Airs
