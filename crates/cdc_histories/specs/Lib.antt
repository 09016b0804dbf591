pub mod Keeping
pub mod Building
