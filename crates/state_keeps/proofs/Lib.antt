pub mod DatasetLemmas
pub mod FoldLemmas
pub mod ListTools
pub mod NameLemmas
pub mod OrderLemmas
pub mod StoreLemmas
