pub mod Guided
pub mod Told
pub mod Typed
