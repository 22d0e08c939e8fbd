pub mod Apart
pub mod Common
pub mod Example
pub mod Standing
