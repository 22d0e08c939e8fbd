pub mod Adjacency
pub mod Commits
pub mod Ready
pub mod Relists
pub mod Standing
pub mod Slots
