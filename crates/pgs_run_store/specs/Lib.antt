pub mod Dump
pub mod Ending
pub mod Explaining
pub mod Opening
pub mod Refusing
pub mod Spec
