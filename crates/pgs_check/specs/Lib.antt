pub mod Clashes
pub mod Costs
pub mod Own
pub mod Rows
pub mod Standing
pub mod Untyped
