mod FoldingLemmas
mod ReaderLemmas
