pub mod Compared
pub mod Crashes
pub mod DumpOps
pub mod Endings
pub mod Lines
pub mod Sequence
