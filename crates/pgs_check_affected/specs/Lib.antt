pub mod Changes
pub mod Found
pub mod Local
pub mod Met
pub mod Touched
pub mod Unseen
pub mod Samples
