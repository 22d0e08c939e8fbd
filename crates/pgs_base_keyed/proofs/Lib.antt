pub mod First
pub mod Ordering
