pub mod TextLemmas
pub mod BuiltLemmas
