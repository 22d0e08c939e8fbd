pub mod Counts
pub mod JoinedOptions
pub mod Kinds
pub mod Samples
pub mod Shapes
pub mod Standing
