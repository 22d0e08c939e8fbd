pub mod After
pub mod Counted
pub mod Covered
pub mod Degrees
pub mod Parts
pub mod Summed
