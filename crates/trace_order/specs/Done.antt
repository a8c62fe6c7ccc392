-- What one loop did, step by step, the last first: each step's ticket, the actor that did it, and its event.
use Rattle.std.specs.Prelude.{ℕ, ◌<◌, ◌≡◌, ◌==◌, cond, List, [], ◌∷◌, ◌++◌}
use Rattle.actor_trace.specs.Lists.{In}
use Rattle.actor_trace.specs.Actors.{Knows}

pub record Done (E : Type 0) : Type 0 where
  pub ticket : ℕ
  pub by : ℕ
  pub event : E

-- all tickets are below t
abbrev pub AreUnder : {E : Type 0} → ℕ → List (Done E) → Type 0
AreUnder t [] = Unit {0}
AreUnder t (d ∷ ds) = (d.ticket < t) × AreUnder t ds

-- each step's ticket is above those before it
abbrev pub AreRising : {E : Type 0} → List (Done E) → Type 0
AreRising [] = Unit {0}
AreRising (d ∷ ds) = AreUnder d.ticket ds × AreRising ds

-- only actors below n did something
abbrev pub AreBelow : {E : Type 0} → ℕ → List (Done E) → Type 0
AreBelow n [] = Unit {0}
AreBelow n (d ∷ ds) = (d.by < n) × AreBelow n ds

-- what the actor a did, each event with its ticket, the oldest first
abbrev pub done_by : {E : Type 0} → ℕ → List (Done E) → List (ℕ × E)
done_by a [] = []
done_by a (d ∷ ds) = cond (a == d.by) (done_by a ds ++ (d.ticket, d.event) ∷ []) (done_by a ds)

-- the events with their actors, as a history has them
abbrev pub events : {E : Type 0} → List (Done E) → List (ℕ × E)
events [] = []
events (d ∷ ds) = (d.by, d.event) ∷ events ds

-- these are all steps of these actors, in their order
pub record AreAll {E : Type 0} (n : ℕ) (actors : List (Knows E)) (done : List (Done E)) : Type 0 where
  pub rising : AreRising done
  pub below : AreBelow n done
  pub made : (x : Knows E) → In x actors → x.made ≡ done_by x.number done
