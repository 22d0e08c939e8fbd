pub mod AsksNoMore
pub mod Numbers
pub mod Parts
pub mod Safe
pub mod Unfolded
