pub mod Somes
pub mod MemberLaw
pub mod KindLaw
pub mod TreeLaw
pub mod LineLaw
