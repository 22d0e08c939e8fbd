pub mod Digests
pub mod Few
pub mod Index
pub mod MemberLaws
pub mod Members
pub mod Rows
pub mod Standing
pub mod Table
