pub mod Carried
pub mod Counted
pub mod FirstOf
pub mod InOrder
pub mod Origins
pub mod StagedGraph
