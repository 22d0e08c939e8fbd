pub mod Days
pub mod Digits
pub mod Joined
pub mod Rooms
pub mod ToldKinds
mod LabelOrder
mod Spelt
mod Parts
mod WrittenRead
mod Trees
mod Reading
mod FormParts
mod Numerals
mod FormLoops
pub mod Commits
