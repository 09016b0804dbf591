pub mod GrowingFile
pub mod Readings
pub mod Taken
