pub mod Deliveries
pub mod Given
pub mod Places
pub mod Puts
pub mod Seen
pub mod Visits
