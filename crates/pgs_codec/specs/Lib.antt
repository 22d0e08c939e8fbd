pub mod Encodable
pub mod Frame
pub mod Payload
pub mod Places
pub mod Reading
pub mod Unread
pub mod Walking
