pub mod Trims
pub mod Lists
pub mod Scans
pub mod Columns
