pub mod Patches
pub mod Sides
pub mod Walks
