pub mod Answers
pub mod Behind
pub mod Comparing
pub mod Judging
pub mod Names
pub mod Running
pub mod Spec
pub mod Told
