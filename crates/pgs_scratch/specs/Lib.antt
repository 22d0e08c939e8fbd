pub mod Confirmed
pub mod Judged
pub mod Marks
pub mod Owners
pub mod Rows
pub mod Untyped
