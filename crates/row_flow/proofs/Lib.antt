pub mod BatchLemmas
pub mod CountLemmas
pub mod GatherLemmas
pub mod ResultLemmas
pub mod SortLemmas
