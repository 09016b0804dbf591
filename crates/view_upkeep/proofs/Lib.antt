pub mod SettleLemmas
pub mod StandLemmas
pub mod TurnLemmas
