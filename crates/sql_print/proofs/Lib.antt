pub mod WordLemmas
pub mod EscapeLemmas
pub mod PutLemmas
pub mod Prints
