pub mod After
pub mod Dataset
pub mod Follows
pub mod Saved
pub mod Worked
