pub mod Added
pub mod Edges
pub mod Ends
pub mod Looking
pub mod Removed
pub mod Staged
pub mod Standing
