pub mod BodiesLemmas
pub mod CommitLemmas
pub mod CompactLemmas
pub mod GoesOnLemmas
pub mod ImageLemmas
pub mod LoadLemmas
