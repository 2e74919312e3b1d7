pub mod Links
pub mod Stepped
pub mod Filled
pub mod Around
pub mod Next
pub mod Built
pub mod Parts
pub mod Run
