pub mod KeyLemmas
pub mod PatchLemmas
pub mod SideLemmas
pub mod TouchLemmas
