-- Where the log of a node comes from.
use Rattle.std.proofs.Common.{◌≡◌, ℕ, List, [], ◌∷◌, ◌++◌, refl}
use Rattle.std.specs.Prelude.{true, false}
use mathlib.Core.Logic.{◌⊎◌, inl, inr}
use Rattle.cluster_consensus.proofs.Kept.{at_node}
use Rattle.cluster_consensus.specs.Events.{NodeEvent, change}
use Rattle.cluster_consensus.specs.Events.NodeEvent.{Admits, Boot, Down, Back, BackLead, BackTake, BackGrow, BackAppend, Stand, Grants, Lead, Take, Grow, Append, LearnLead, LearnFollow, Asks, Probe, Confirm}
use Rattle.cluster_consensus.specs.Facts.{Own, World}
use Rattle.cluster_consensus.specs.Histories.{after}
use Rattle.cluster_facts.specs.Brought.{IsBrought}
use Rattle.core_lists.specs.Lists.{Has}
use Rattle.core_lists.specs.Lists.In.{here, there}

-- the log is one that the node accepted, or came up with
abbrev Had : {E : Type 0} → List (ℕ × NodeEvent E) → ℕ → Own E → Type 0
Had h k o = o.was_up ≡ true → Has (λ c. (c.gen ≡ o.accepted) × (c.log ≡ o.log)) o.accepts ⊎ IsBrought h k o.accepted o.log

had_on : {E : Type 0} (h : List (ℕ × NodeEvent E)) (x : ℕ × NodeEvent E) (k : ℕ) (o : Own E) → Had h k o → Had (x ∷ h) k o
had_on {E} h x k o f = λ t. go (f t)
  where
    go : Has (λ c. (c.gen ≡ o.accepted) × (c.log ≡ o.log)) o.accepts ⊎ IsBrought h k o.accepted o.log → Has (λ c. (c.gen ≡ o.accepted) × (c.log ≡ o.log)) o.accepts ⊎ IsBrought (x ∷ h) k o.accepted o.log
    go (inl c) = inl c
    go (inr b) = inr (b.0, there b.1)

had_row : {E : Type 0} (h : List (ℕ × NodeEvent E)) (i : ℕ) (o : Own E) (e : NodeEvent E) → Had h i o → Had ((i, e) ∷ h) i (change i o e)
had_row h i o (Admits k p a) f = had_on h (i, Admits k p a) i o f
had_row h i o (Boot p a l) f = λ t. inr (p, here)
had_row h i o Down f = had_on h (i, Down) i o f
had_row h i o (Back p) f = had_on h (i, Back p) i o f
had_row h i o BackLead f = λ t. inl (record { it = record { gen = o.promised; log = o.log }; mem = here; is = (refl, refl) })
had_row h i o (BackTake g l) f = λ t. inl (record { it = record { gen = g; log = l }; mem = here; is = (refl, refl) })
had_row h i o (BackGrow l) f = λ t. inl (record { it = record { gen = o.accepted; log = l }; mem = here; is = (refl, refl) })
had_row h i o (BackAppend e) f = λ t. inl (record { it = record { gen = o.accepted; log = o.log ++ e ∷ [] }; mem = here; is = (refl, refl) })
had_row h i o (Stand g) f = had_on h (i, Stand g) i o f
had_row h i o (Grants g to) f = had_on h (i, Grants g to) i o f
had_row h i o Lead f = λ t. inl (record { it = record { gen = o.promised; log = o.log }; mem = here; is = (refl, refl) })
had_row h i o (Take g l) f = λ t. inl (record { it = record { gen = g; log = l }; mem = here; is = (refl, refl) })
had_row h i o (Grow l) f = λ t. inl (record { it = record { gen = o.accepted; log = l }; mem = here; is = (refl, refl) })
had_row h i o (Append e) f = λ t. inl (record { it = record { gen = o.accepted; log = o.log ++ e ∷ [] }; mem = here; is = (refl, refl) })
had_row h i o (LearnLead l) f = had_on h (i, LearnLead l) i o f
had_row h i o (LearnFollow l) f = had_on h (i, LearnFollow l) i o f
had_row h i o (Asks t) f = had_on h (i, Asks t) i o f
had_row h i o (Probe t) f = had_on h (i, Probe t) i o f
had_row h i o (Confirm t g) f = had_on h (i, Confirm t g) i o f

pub had : {E : Type 0} (k : ℕ) (h : List (ℕ × NodeEvent E)) → ((after h).nodes k).was_up ≡ true → Has (λ c. (c.gen ≡ ((after h).nodes k).accepted) × (c.log ≡ ((after h).nodes k).log)) ((after h).nodes k).accepts ⊎ IsBrought h k ((after h).nodes k).accepted ((after h).nodes k).log
had k [] = λ (t : false ≡ true). absurd (cc)
had {E} k (x ∷ h) =
    let w : World E = after h in
    at_node w x.0 x.1 (λ j o. Had (x ∷ h) j o) k (had_row h x.0 (w.nodes x.0) x.1 (had x.0 h)) (had_on h x k (w.nodes k) (had k h))
