pub mod Looks
pub mod Offers
