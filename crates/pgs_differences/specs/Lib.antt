pub mod Differences
pub mod Nearest
pub mod Samples
pub mod Texts
