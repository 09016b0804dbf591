pub mod Cache
pub mod Keys
pub mod Looks
pub mod Pays
pub mod Splices
pub mod Worked
pub mod Zones
