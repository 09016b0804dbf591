pub mod AcceptLemmas
pub mod CommitLemmas
pub mod LookupLemmas
pub mod PartLemmas
