pub mod Given
pub mod Numbers
pub mod Past
pub mod Pieces
pub mod ProgramWords
pub mod Tries
pub mod Whole
pub mod Written
