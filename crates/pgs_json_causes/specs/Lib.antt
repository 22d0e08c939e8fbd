pub mod Byte
pub mod Cause
pub mod LineCause
pub mod MemberForms
pub mod Shown
