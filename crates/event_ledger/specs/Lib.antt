pub mod Keyed
pub mod Spots
