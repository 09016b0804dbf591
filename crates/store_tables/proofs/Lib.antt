pub mod BaseLemmas
pub mod CursorLemmas
pub mod FirstLemmas
pub mod MemberLemmas
pub mod NameLemmas
pub mod PartLemmas
pub mod TakeLemmas
pub mod WalkLemmas
