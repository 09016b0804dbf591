pub mod Steps
pub mod Judged
pub mod Visiting
pub mod Placed
pub mod Declared
pub mod Differ
pub mod Plans
pub mod Levels
