pub mod LimitLemmas
pub mod StateLemmas
