pub mod Causes
pub mod Fronts
pub mod Reading
pub mod Walk
