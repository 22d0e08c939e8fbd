pub mod Caused
pub mod Followed
pub mod Numbered
pub mod Safe
pub mod SavedSteps
pub mod StoreNext
pub mod StorePromised
