pub mod PayloadLemmas
pub mod StateLemmas
