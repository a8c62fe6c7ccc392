-- The log of the reported node, as its store has it at the end of a run.
use Rattle.std.specs.Prelude.{ℕ, ◌≡◌, ◌⊎◌, true, List, [], ◌∷◌, ◌++◌, map}
use Rattle.cluster_consensus.specs.Facts.{Own}
use Rattle.cluster_requests.specs.KeptEntries.{KeptEntry, plain}
use Rattle.kept_log.specs.Kept.{Kept, StandForAny, kept}
use Rattle.phys_log.specs.declared.entries.Entry.{Entry}

-- a log, or this with one entry more
abbrev pub IsOrHasMore : List Entry → List Entry → Type 0
IsOrHasMore log entries = (entries ≡ log) ⊎ ((e : Entry) × (entries ≡ log ++ e ∷ []))

abbrev pub AllAreOrHaveMore : List Entry → List Kept → Type 0
AllAreOrHaveMore log [] = Unit {0}
AllAreOrHaveMore log (k ∷ ks) = IsOrHasMore log k.entries × AllAreOrHaveMore log ks

-- the bytes of a node's store stand for its log; where it is down, maybe for one entry more
pub record StandForLog (node cluster : ℕ) (bytes : List ℕ) (o : Own KeptEntry) : Type 0 where
  pub some : List Kept
  pub stand : ∥ StandForAny node cluster bytes some ∥₁
  pub all : AllAreOrHaveMore (map plain o.log) some
  pub exact : o.up ≡ true → some ≡ kept o.promised o.accepted (map plain o.log) ∷ []
