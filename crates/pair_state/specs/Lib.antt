pub mod Leads
pub mod Ours
pub mod PairEnd
pub mod PairState
