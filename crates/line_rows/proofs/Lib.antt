pub mod CsvLemmas
pub mod FieldTexts
pub mod FitLemmas
pub mod JsonLemmas
pub mod PlainLines
pub mod ReadingLemmas
pub mod TextLemmas
