pub mod Braced
pub mod Counted
pub mod Ended
pub mod Forms
pub mod Leaves
pub mod Types
pub mod Middles
