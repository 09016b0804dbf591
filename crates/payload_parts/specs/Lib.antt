pub mod Bag
pub mod Moments
pub mod Places
pub mod Same
pub mod Stored
