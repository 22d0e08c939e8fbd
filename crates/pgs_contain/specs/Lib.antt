pub mod Contained
pub mod Containing
pub mod Frames
pub mod Known
pub mod Regions
pub mod Rows
pub mod Strange
pub mod Threes
