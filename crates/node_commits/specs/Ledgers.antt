-- What a node keeps to answer requests: the identities of its log, and what it told of requests since it leads. The node's own
-- events say what it told, and at each lead it begins anew:
--
--   Lead 3, Settle (3, a, 1) as a conflict, Append, Settle (3, b, 1) as a repeat of 2    (3, a, 1) a conflict, (3, b, 1) a repeat of 2
--   Lead 3, Settle (3, a, 1) as a conflict, Stand 5, Lead 5                              nothing
--
-- The first is kept as the identities (3, a, 1) at 0 and (3, b, 1) at 1, and the decisions by these numbers.
use Rattle.std.specs.Prelude.{ℕ, ◌≡◌, ◌⊎◌, ◌+◌, List, [], ◌∷◌, ◌++◌}
use Rattle.std.specs.List.{AllByRecursion}
use Rattle.blkseq_table.specs.Known.{Known}
use Rattle.blkseq_table.specs.OfLogs.{identities_of}
use Rattle.cluster_steps.specs.declared.events.Event.{Event}
use Rattle.cluster_steps.specs.declared.events.Event.TheVariants as event
use Rattle.phys_log.specs.declared.entries.CommitId.{CommitId}
use Rattle.phys_log.specs.declared.requests.Decision.{Decision}
use Rattle.node_state.specs.Nodes.{Held, events_of}

-- what was told of a request
pub record Settlement : Type 0 where
  pub id : CommitId
  pub decision : Decision

abbrev pub settlement : CommitId → Decision → Settlement
settlement id d = record { id = id; decision = d }

-- what is told behind an event more, and behind events, the oldest first
abbrev pub told_after : List Settlement → Event → List Settlement
told_after told (event.Lead generation) = []
told_after told (event.Settle id d) = told ++ settlement id.value d.value ∷ []
told_after told _ = told

abbrev pub told_behind : List Settlement → List Event → List Settlement
told_behind told [] = told
told_behind told (e ∷ es) = told_behind (told_after told e) es

abbrev pub told_by : List Event → List Settlement
told_by es = told_behind [] es

-- that was told of a request; nothing was
abbrev pub IsTold : List Settlement → CommitId → Decision → Type 0
IsTold [] id d = ⊥
IsTold (s ∷ told) id d = ((s.id ≡ id) × (s.decision ≡ d)) ⊎ IsTold told id d

abbrev pub IsUntold : List Settlement → CommitId → Type 0
IsUntold told id = AllByRecursion (λ s. s.id ≡ id → ⊥) told

-- identities and decisions by the same numbers
abbrev pub told_of : List Known → List Decision → List Settlement
told_of [] ds = []
told_of (k ∷ ks) [] = []
told_of (k ∷ ks) (d ∷ ds) = settlement k.id d ∷ told_of ks ds

abbrev pub AreNumbered : ℕ → List Known → List Decision → Type 0
AreNumbered n [] [] = Unit {0}
AreNumbered n [] (d ∷ ds) = ⊥
AreNumbered n (k ∷ ks) [] = ⊥
AreNumbered n (k ∷ ks) (d ∷ ds) = (k.position ≡ n) × AreNumbered (n + 1) ks ds

-- a ledger as contracts see it
pub record Book : Type 0 where
  pub known : List Known
  pub told : List Settlement

abbrev pub book : List Known → List Known → List Decision → Book
book known settled decisions = record { known = known; told = told_of settled decisions }

-- it is a node's: of its log, and of what it told since it leads
pub record IsBookOf (b : Book) (h : Held) : Type 0 where
  pub known : b.known ≡ identities_of h.entries
  pub told : b.told ≡ told_by (events_of h.actor.made)
