pub mod Arranged
pub mod Followed
pub mod Samples
pub mod Standing
