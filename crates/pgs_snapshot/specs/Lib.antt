pub mod Choice
pub mod Faults
pub mod Saved
pub mod Standing
