pub mod Alike
pub mod Committing
pub mod Contents
pub mod Histories
pub mod Outdated
pub mod Refused
pub mod Tracked
