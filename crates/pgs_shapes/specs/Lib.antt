pub mod Counts
pub mod Fault
pub mod Parts
pub mod Properties
