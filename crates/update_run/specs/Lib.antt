pub mod Order
pub mod Folders
pub mod Updates
pub mod Runs
pub mod TwoTables
