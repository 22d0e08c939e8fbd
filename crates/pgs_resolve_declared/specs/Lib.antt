pub mod Declarations
pub mod Imports
pub mod Order
pub mod Refused
pub mod Tables
