pub mod Guard
pub mod Keyed
pub mod Resolution
pub mod Samples
pub mod SchemaOf
pub mod Standing
pub mod Ways
