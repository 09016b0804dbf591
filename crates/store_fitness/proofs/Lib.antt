pub mod AnswerLemmas
pub mod BatchLemmas
pub mod FlowLemmas
pub mod StandLemmas
