pub mod AtomsOfPaths
pub mod Edges
pub mod Held
pub mod Listed
pub mod Stepped
pub mod Unions
