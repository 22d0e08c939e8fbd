pub mod Examples
pub mod Judged
pub mod Read
pub mod Spec
pub mod Told
