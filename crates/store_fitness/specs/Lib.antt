pub mod Fitness
pub mod Walks
