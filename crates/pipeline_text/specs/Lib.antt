pub mod Built
pub mod Pipelines
