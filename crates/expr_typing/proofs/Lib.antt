pub mod FormSorts
pub mod SortJoins
pub mod TypedTrees
