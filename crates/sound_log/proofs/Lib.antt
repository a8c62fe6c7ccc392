pub mod IdentityLemmas
pub mod SoundLemmas
pub mod GrowthLemmas
pub mod BytesLemmas
pub mod GoOnLemmas
