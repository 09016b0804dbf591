pub mod Ends
pub mod Metrics
pub mod Rows
pub mod Words
