pub mod Lexing
pub mod Readable
pub mod Spellable
