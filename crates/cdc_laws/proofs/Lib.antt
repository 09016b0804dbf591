pub mod MovedLemmas
pub mod SpanLemmas
