pub mod Exit
pub mod Outside
pub mod Program
