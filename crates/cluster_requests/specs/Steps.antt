-- What of the acts is an event of the nodes, and what of its entries holds where they are appended.
use Rattle.std.specs.Prelude.{ℕ, ◌≡◌, List, [], ◌∷◌, Some}
use Rattle.cluster_consensus.specs.Events.{NodeEvent}
use Rattle.cluster_requests.specs.Identities.{generation_of, identity_of, Lacks}
use Rattle.cluster_requests.specs.KeptEntries.{KeptEntry}
use Rattle.cluster_requests.specs.Requests.{FieldAct}
use Rattle.cluster_requests.specs.Requests.FieldAct.{Core, ToSend, ToSettle, ToRepeat}
use Rattle.phys_log.specs.declared.entries.CommitId.{CommitId}

abbrev pub add_step : ℕ → FieldAct → List (ℕ × NodeEvent KeptEntry) → List (ℕ × NodeEvent KeptEntry)
add_step i (Core e) steps = (i, e) ∷ steps
add_step i (ToSend x) steps = steps
add_step i (ToSettle id why) steps = steps
add_step i (ToRepeat id position) steps = steps

-- the events of the nodes among the acts
abbrev pub steps_of : List (ℕ × FieldAct) → List (ℕ × NodeEvent KeptEntry)
steps_of [] = []
steps_of (x ∷ h) = add_step x.0 x.1 (steps_of h)

-- an entry is of the generation that appends it, and no entry before it has its identity
abbrev pub IsNewIn : ℕ → List KeptEntry → KeptEntry → Type 0
IsNewIn g xs e = (generation_of e ≡ g) × ((id : CommitId) → identity_of e ≡ Some id → Lacks id xs)
