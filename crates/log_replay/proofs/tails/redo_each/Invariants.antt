use Rattle.std.proofs.Common.{ℕ, ◌≡◌, ◌++◌, length}
use Rattle.phys_log.specs.Logs.{replayed}
use Rattle.log_replay.specs.Chains.{links_on}
use Rattle.log_replay.specs.Kept.{page_in, chain_in, AreMade, Roomier}
use Rattle.log_replay.proofs.tails.redo_each.Given as goal

abbrev pub invariant-again : goal.invariant-again
invariant-again l = record {
  next : AreMade (page_in l.pages) l.rest;
  whole : replayed (page_in l.pages) l.rest ≡ replayed (page_in l.fn.pages) l.records;
  links : (n : ℕ) → chain_in l.pages n ++ links_on n l.position l.rest ≡ chain_in l.fn.pages n ++ links_on n l.position l.records;
  roomy : Roomier l.fn.pages l.pages;
}

abbrev pub decreases-again : goal.decreases-again
decreases-again l = length l.rest
