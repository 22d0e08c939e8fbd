pub mod End
pub mod Texts
