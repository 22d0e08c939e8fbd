pub mod Deltas
pub mod EdgesWith
pub mod EdgeLists
pub mod Relisted
