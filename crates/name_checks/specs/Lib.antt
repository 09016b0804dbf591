pub mod Sources
pub mod Names
pub mod Edges
