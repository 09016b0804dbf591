pub mod Visits
pub mod Walks
pub mod Names
pub mod Checks
