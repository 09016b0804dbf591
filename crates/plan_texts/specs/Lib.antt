pub mod Readings
pub mod Judged
pub mod Texts
