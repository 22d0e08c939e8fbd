pub mod Answered
pub mod Keys
