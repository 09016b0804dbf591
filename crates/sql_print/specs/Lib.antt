pub mod Clauses
pub mod Placed
pub mod Writing
