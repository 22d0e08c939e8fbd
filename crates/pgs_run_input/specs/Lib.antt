pub mod Answers
pub mod Input
pub mod Judged
pub mod Part
pub mod Session
pub mod Text
pub mod TextFaults
