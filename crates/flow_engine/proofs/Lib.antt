pub mod CommitLemmas
pub mod EndLemmas
pub mod PlaceLemmas
pub mod RunLemmas
