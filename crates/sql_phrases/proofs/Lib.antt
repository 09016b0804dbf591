pub mod Turns
pub mod Phrases
pub mod Terminals
pub mod Contexts
