use Rattle.std.proofs.Common.{ℕ, ◌≡◌, ◌+◌, ◌++◌, ◌≤◌, ◌^◌, take}
use Rattle.log_replay.specs.Chains.{links_on}
use Rattle.log_replay.specs.Kept.{page_in, chain_in, Roomier}
use Rattle.log_replay.proofs.WriteLemmas.{Backs}
use Rattle.log_replay.proofs.writes.write_all.Given as goal

abbrev pub invariant-loop-i : goal.invariant-loop-i
invariant-loop-i l = record {
  number : l.lsn ≡ l.from + l.i;
  made : Backs (page_in l.fn.pages) l.from (page_in l.pages) (take l.i l.records);
  linked : (n : ℕ) → chain_in l.pages n ≡ chain_in l.fn.pages n ++ links_on n l.position (take l.i l.records);
  low : l.from ≤ 2 ^ 62 → l.lsn ≤ 2 ^ 62;
  roomy : Roomier l.fn.pages l.pages;
}
