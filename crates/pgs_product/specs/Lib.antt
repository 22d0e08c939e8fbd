pub mod Counts
pub mod Merged
