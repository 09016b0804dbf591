pub mod Aggregates
pub mod SelectNames
