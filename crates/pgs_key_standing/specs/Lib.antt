pub mod Demands
pub mod Joint
pub mod Kinds
pub mod Placed
pub mod Reach
pub mod Renamed
