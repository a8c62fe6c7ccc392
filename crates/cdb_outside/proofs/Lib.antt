pub mod FrontLemmas
pub mod TurnLemmas
pub mod StopLemmas
