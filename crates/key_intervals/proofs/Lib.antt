pub mod LyingLemmas
