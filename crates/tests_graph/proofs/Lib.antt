pub mod Empty
pub mod Put
