pub mod CursorLemmas
pub mod FirstLemmas
pub mod PartLemmas
pub mod StateLemmas
pub mod TakeLemmas
pub mod WalkLemmas
