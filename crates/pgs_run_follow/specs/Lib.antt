pub mod Following
pub mod Spec
pub mod Texts
pub mod Told
