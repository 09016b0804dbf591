pub mod FoundLemmas
pub mod GrowthLemmas
pub mod OrderLemmas
