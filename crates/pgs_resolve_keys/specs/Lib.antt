pub mod Groups
pub mod KeyFaults
pub mod KeyNames
pub mod Patterns
pub mod Placed
pub mod VariableTable
