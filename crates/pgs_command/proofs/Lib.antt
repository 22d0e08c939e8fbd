pub mod Images
pub mod OwnEnds
pub mod OwnPromise
pub mod Promising
pub mod Refusing
pub mod Replied
pub mod Unread
