pub mod CountLemmas
pub mod SlotLemmas
pub mod StandingLemmas
