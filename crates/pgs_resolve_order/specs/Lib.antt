pub mod DepthFirst
pub mod Links
pub mod Listing
pub mod Reached
pub mod Searching
