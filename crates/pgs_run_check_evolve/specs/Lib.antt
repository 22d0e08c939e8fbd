pub mod Lines
pub mod Spec
pub mod StoreSpec
pub mod Stored
pub mod Telling
pub mod Told
