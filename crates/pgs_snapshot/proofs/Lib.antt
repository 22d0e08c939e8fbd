pub mod Choices
pub mod Finding
pub mod Fitness
pub mod Heads
pub mod Histories
pub mod Stores
