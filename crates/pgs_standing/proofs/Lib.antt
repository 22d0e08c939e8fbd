pub mod Chosen
pub mod Found
pub mod Fewest
pub mod Parted
pub mod Shared
pub mod Smaller
pub mod Three
