pub mod ComeLemmas
pub mod CountLemmas
pub mod FoldLemmas
pub mod ShowLemmas
