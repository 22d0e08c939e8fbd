pub mod Caps
pub mod Least
pub mod Parts
pub mod Places
pub mod Sizes
pub mod Totals
