pub mod Blames
pub mod Commits
pub mod Finds
pub mod Goings
pub mod Looks
pub mod News
pub mod Made
