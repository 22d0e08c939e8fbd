pub mod Knowing
pub mod Loops
pub mod Moments
pub mod ProgramWords
