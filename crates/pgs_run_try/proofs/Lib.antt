pub mod Done
pub mod Judged
pub mod Listed
pub mod Machine
pub mod Promised
pub mod Room
pub mod SchemaEnds
