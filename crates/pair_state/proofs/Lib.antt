pub mod LeadsLemmas
pub mod PairEndLemmas
pub mod PairStateLemmas
