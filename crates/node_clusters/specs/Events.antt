-- What a node's events tell beside its numbers: whether it comes up by one of them, and how often its store fails.
use Rattle.std.specs.Prelude.{ℕ, ◌≡◌, ◌+◌, cond, List, [], ◌∷◌}
use Rattle.cluster_steps.specs.declared.events.Event.{Event}
use Rattle.cluster_steps.specs.declared.events.Event.TheVariants as event

-- it does not come up by this event, nor by any of these
abbrev pub IsNoUp : Event → Type 0
IsNoUp (event.Up how promised accepted entries) = ⊥
IsNoUp _ = Unit {0}

abbrev pub AreNoUps : List Event → Type 0
AreNoUps [] = Unit {0}
AreNoUps (e ∷ es) = IsNoUp e × AreNoUps es

-- how often it falls by a fault
abbrev pub fall_of : Event → ℕ
fall_of (event.Down fault) = cond fault 1 0
fall_of _ = 0

abbrev pub falls_in : List Event → ℕ
falls_in [] = 0
falls_in (e ∷ es) = fall_of e + falls_in es

-- by these it neither comes up nor falls
pub record AreCalm (es : List Event) : Type 0 where
  pub no_ups : AreNoUps es
  pub no_falls : falls_in es ≡ 0
