pub mod ContentLemmas
pub mod VersionLemmas
