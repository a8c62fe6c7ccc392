mod NumberLemmas
mod AlikeLemmas
mod BlindLemmas
