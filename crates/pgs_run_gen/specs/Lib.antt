pub mod Persons
pub mod Spec
pub mod Told
pub mod Workload
