pub mod Machine
pub mod Promised
