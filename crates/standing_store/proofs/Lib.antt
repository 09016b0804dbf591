pub mod AnyTextLemmas
pub mod CommitLemmas
pub mod DiskLemmas
pub mod EmptyLemmas
pub mod PlanLemmas
