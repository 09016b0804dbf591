pub mod Touched
pub mod Turned
pub mod Weights
