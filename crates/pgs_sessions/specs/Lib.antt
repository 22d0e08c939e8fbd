pub mod Changes
pub mod Committing
pub mod Costs
pub mod Differing
pub mod Least
pub mod Open
pub mod State
pub mod Summary
