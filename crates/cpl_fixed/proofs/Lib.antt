pub mod Parts
pub mod ShareLaws
pub mod Reciprocals
pub mod Flows
pub mod Lending
