pub mod NetLemmas
pub mod ChainLemmas
