pub mod Answered
pub mod Behind
pub mod Containing
pub mod Machine
pub mod Naming
pub mod Promised
pub mod SchemaEnds
