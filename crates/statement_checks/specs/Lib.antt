pub mod Declares
pub mod Repeats
pub mod Limits
pub mod Duplicates
pub mod Breaks
