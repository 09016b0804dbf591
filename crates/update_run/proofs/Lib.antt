pub mod OrderLemmas
pub mod FilesLemmas
pub mod StepLemmas
pub mod BlameLemmas
pub mod NextLemmas
pub mod SeriesLemmas
pub mod ListingLemmas
pub mod TablesLemmas
