pub mod Counts
pub mod Deliveries
pub mod Drops
pub mod Given
pub mod Visits
