pub mod Csv
pub mod Hex
pub mod Json
pub mod Lines
pub mod Readings
