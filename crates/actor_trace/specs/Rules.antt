-- The rule of the table, which every step keeps.
use Rattle.std.specs.Prelude.{ℕ, ◌≡◌, ◌<◌, ◌≤◌, List, [], ◌∷◌, length}
use mathlib.Core.Option.{some}
use lib.ListN.{get_elem?}
use Rattle.actor_trace.specs.declared.view.View.{View}
use Rattle.actor_trace.specs.Lists.{times, total}
use Rattle.actor_trace.specs.History.{IsLegal, AllBelow, entries_of}
use Rattle.actor_trace.specs.Views.{Fits}

-- There is one legal history, as long as the word says, that each view fits. No actor's number stands in two views, and none
-- made more than 2^31 steps.
pub record Kept {E : Type 0} (enabled : List (ℕ × E) → ℕ → E → Type 0) (n : ℕ) (words : List ℕ) (views : List (View E)) : Type 0 where
  pub log : List (ℕ × E)
  pub word : words ≡ length log ∷ []
  pub legal : IsLegal enabled log
  pub small : n < 4294967296
  pub few : (a : ℕ) → length (entries_of a log) ≤ 2147483648
  pub below : AllBelow n log
  pub fits : (i : ℕ) (v : View E) → get_elem? views i ≡ some v → Fits n log v
  pub once : (a : ℕ) → total (λ v. times a v.made) views ≤ 1
