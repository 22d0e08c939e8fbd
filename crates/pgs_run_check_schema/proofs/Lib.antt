pub mod Fronts
pub mod Given
pub mod Judging
pub mod Promised
pub mod Telling
pub mod Typed
