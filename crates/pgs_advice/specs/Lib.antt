pub mod Apart
pub mod Parts
pub mod Subtypes
pub mod Unknown
pub mod Unused
pub mod Used
pub mod Void
pub mod Words
