pub mod Parts
pub mod Settled
pub mod Stands
pub mod Tallies
