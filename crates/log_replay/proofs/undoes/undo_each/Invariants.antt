use Rattle.std.proofs.Common.{ℕ, ◌≡◌, ◌++◌, List, length}
use Rattle.page_store.specs.Image.{Image}
use Rattle.log_replay.specs.declared.chains.ChainLink.{ChainLink}
use Rattle.log_replay.specs.Chains.{links_on}
use Rattle.log_replay.specs.Kept.{page_in, chain_in, Roomier}
use Rattle.log_replay.proofs.WriteLemmas.{Backs}
use Rattle.log_replay.proofs.undoes.undo_each.Given as goal

abbrev pub invariant-back : goal.invariant-back
invariant-back l = record {
  back : (base : ℕ → Image) (lsn : ℕ) → Backs base lsn (page_in l.fn.pages) l.records → Backs base lsn (page_in l.pages) l.rest;
  links : (base : ℕ → List ChainLink) (position : ℕ) → ((n : ℕ) → chain_in l.fn.pages n ≡ base n ++ links_on n position l.records)
      → (n : ℕ) → chain_in l.pages n ≡ base n ++ links_on n position l.rest;
  roomy : Roomier l.fn.pages l.pages;
}

abbrev pub decreases-back : goal.decreases-back
decreases-back l = length l.rest
