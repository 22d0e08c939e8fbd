pub mod Edited
pub mod Found
pub mod Keys
pub mod Parts
pub mod Passed
pub mod Sides
pub mod Standing
