pub mod Alone
pub mod Commits
pub mod Content
pub mod Machine
pub mod Meaning
pub mod Samples
