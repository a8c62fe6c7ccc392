pub mod KeyLemmas
pub mod LookupLemmas
pub mod LogLemmas
pub mod TailLemmas
