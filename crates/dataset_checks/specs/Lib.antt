pub mod Ends
pub mod Reading
pub mod Appending
pub mod Feeding
pub mod Viewing
pub mod Filling
pub mod Tables
pub mod Datasets
