pub mod Filled
pub mod Joined
pub mod Listed
pub mod Steps
