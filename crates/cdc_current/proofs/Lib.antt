pub mod CountLemmas
pub mod KeyLemmas
pub mod OrderLemmas
pub mod OwnLemmas
pub mod TurnLemmas
