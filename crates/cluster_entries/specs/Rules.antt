-- What holds of each entry of a log, over the entries before it.
use Rattle.std.specs.Prelude.{ℕ, List, [], ◌∷◌, ◌++◌}
use Rattle.cluster_consensus.specs.Events.{NodeEvent}
use Rattle.cluster_consensus.specs.Events.NodeEvent.{Boot, Append, BackAppend}
use Rattle.cluster_consensus.specs.Facts.{Own}
use Rattle.cluster_consensus.specs.Histories.{after}
use Rattle.core_lists.specs.Fronts.{Front}

-- P holds of each entry, over the entries before it
abbrev pub EachEntry : {E : Type 0} → (List E → E → Type 0) → List E → Type 0
EachEntry {E} P l = (xs : List E) (e : E) → Front (xs ++ e ∷ []) l → P xs e

-- each appended entry, and each log of a store
abbrev pub Enters : {E : Type 0} → (List E → E → Type 0) → Own E → NodeEvent E → Type 0
Enters P o (Append e) = P o.log e
Enters P o (BackAppend e) = P o.log e
Enters P o (Boot p a l) = EachEntry P l
Enters P o _ = Unit {0}

abbrev pub AllEnter : {E : Type 0} → (List E → E → Type 0) → List (ℕ × NodeEvent E) → Type 0
AllEnter P [] = Unit {0}
AllEnter P (x ∷ h) = Enters P ((after h).nodes x.0) x.1 × AllEnter P h
