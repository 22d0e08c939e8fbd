pub mod Form
pub mod Scan
pub mod Token
pub mod Cut
pub mod Tokens
