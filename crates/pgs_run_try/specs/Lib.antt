pub mod Deciding
pub mod Judging
pub mod Opening
pub mod Spec
pub mod State
pub mod Told
pub mod Trying
