pub mod Further
pub mod Words
