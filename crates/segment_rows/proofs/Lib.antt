pub mod LoopLemmas
pub mod TextLemmas
pub mod WholeLemmas
