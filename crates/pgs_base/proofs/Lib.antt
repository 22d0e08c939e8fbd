pub mod Ascending
pub mod Edits
pub mod Graphs
pub mod Items
pub mod Lookups
pub mod Pairs
pub mod Places
pub mod Texts
