pub mod Changed
pub mod Lists
pub mod Operations
pub mod Reads
