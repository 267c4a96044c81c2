mod TurnLemmas
pub mod cited
