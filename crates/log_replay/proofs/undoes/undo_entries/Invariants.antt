use Rattle.std.proofs.Common.{ℕ, ◌≡◌, ◌++◌, List, length}
use Rattle.page_store.specs.Image.{Image}
use Rattle.phys_log.specs.Logs.{records_in}
use Rattle.log_replay.specs.declared.chains.ChainLink.{ChainLink}
use Rattle.log_replay.specs.Chains.{chain_from}
use Rattle.log_replay.specs.Kept.{page_in, chain_in, Roomier}
use Rattle.log_replay.proofs.WriteLemmas.{Backs}
use Rattle.log_replay.proofs.undoes.undo_entries.Given as goal

abbrev pub invariant-back : goal.invariant-back
invariant-back l = record {
  back : (base : ℕ → Image) (lsn : ℕ) → Backs base lsn (page_in l.fn.pages) (records_in l.entries)
      → Backs base lsn (page_in l.pages) (records_in l.rest);
  links : (base : ℕ → List ChainLink) (position : ℕ) → ((n : ℕ) → chain_in l.fn.pages n ≡ base n ++ chain_from n position l.entries)
      → (n : ℕ) → chain_in l.pages n ≡ base n ++ chain_from n position l.rest;
  roomy : Roomier l.fn.pages l.pages;
}

abbrev pub decreases-back : goal.decreases-back
decreases-back l = length l.rest
