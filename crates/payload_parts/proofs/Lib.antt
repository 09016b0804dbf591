pub mod BagLemmas
pub mod MomentLemmas
pub mod RowLemmas
pub mod WalkLemmas
