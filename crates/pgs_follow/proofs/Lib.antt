pub mod Arrangements
pub mod Following
pub mod Standing
