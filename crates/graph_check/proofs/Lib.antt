mod WalkLemmas
mod RoundLemmas
mod CycleLemmas
mod MarkLemmas
mod LawLemmas
