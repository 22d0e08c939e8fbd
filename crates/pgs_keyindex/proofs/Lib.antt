pub mod Changes
pub mod Entered
pub mod Held
