pub mod Firsts
pub mod Members
pub mod Parts
pub mod Repeats
pub mod Same
pub mod Steps
pub mod Walks
