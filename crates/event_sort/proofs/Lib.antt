pub mod SortLemmas
