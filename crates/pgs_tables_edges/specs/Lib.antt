pub mod Built
pub mod Form
pub mod Numbers
pub mod Packed
pub mod Starts
