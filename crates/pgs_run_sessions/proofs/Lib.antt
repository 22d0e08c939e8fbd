pub mod Following
pub mod Fronts
pub mod InBrief
pub mod Machine
pub mod OneWord
pub mod Promised
pub mod Room
pub mod SchemaEnds
