pub mod Lexical
pub mod Scanning
pub mod Slices
