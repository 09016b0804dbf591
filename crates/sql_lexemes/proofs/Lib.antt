pub mod Pieces
pub mod Words
pub mod Spellings
pub mod Readback
pub mod Utf8
pub mod Slicing
pub mod Spelled
