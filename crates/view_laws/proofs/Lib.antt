pub mod Best
pub mod Groups
pub mod Stops
pub mod ViewLemmas
pub mod ViewTurns
pub mod Weighing
