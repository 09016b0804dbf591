pub mod StampLemmas
pub mod TableLemmas
pub mod TurnLemmas
