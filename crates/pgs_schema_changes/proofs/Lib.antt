pub mod Alike
pub mod Kept
pub mod KeptKeys
pub mod Numbering
pub mod Pairs
pub mod Steps
pub mod Types
pub mod Unfolding
