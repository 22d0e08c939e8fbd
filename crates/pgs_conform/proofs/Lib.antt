pub mod Compared
pub mod Counted
pub mod LabelWalk
pub mod Plain
pub mod PropWalk
pub mod Walks
