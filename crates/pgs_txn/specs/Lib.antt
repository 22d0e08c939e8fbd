pub mod Answers
pub mod Edits
pub mod Listing
pub mod Looks
pub mod Removing
pub mod Rows
pub mod Samples
pub mod Working
