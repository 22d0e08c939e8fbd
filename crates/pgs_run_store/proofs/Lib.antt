pub mod Conforming
pub mod Images
pub mod Reading
pub mod Saving
pub mod Shown
mod Tells
mod Unopening
pub mod Unread
