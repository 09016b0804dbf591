pub mod Stints
pub mod Trails
