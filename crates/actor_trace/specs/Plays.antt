-- What the two kinds of step on the word tell their caller.
use Rattle.std.specs.Prelude.{ℕ, ◌≡◌, ◌+◌, List, [], ◌∷◌, ◌++◌, length}
use Rattle.actor_trace.specs.declared.view.View.{View}
use Rattle.actor_trace.specs.Lists.{In, Begins}
use Rattle.actor_trace.specs.History.{IsLegal, entries_of}
use Rattle.actor_trace.specs.Steps.{Adds}

-- A load: the history was seen as it is, and what was heard of begins it.
pub record Looks {E : Type 0} (enabled : List (ℕ × E) → ℕ → E → Type 0) (v : View E) (found : ℕ) (w : View E) : Type 0 where
  pub made : w.made ≡ v.made
  pub sees : Begins v.seen w.seen
  pub hears : (s : List (ℕ × E)) → In s v.heard → Begins s w.seen
  pub none : w.heard ≡ []
  pub own : (a : ℕ) (xs : List (ℕ × E)) → In (a, xs) v.made → xs ≡ entries_of a w.seen
  pub length_is : found ≡ length w.seen
  pub legal : IsLegal enabled w.seen

-- One more: the event stands behind all that was seen, at the number that was found.
pub record Told {E : Type 0} (enabled : List (ℕ × E) → ℕ → E → Type 0) (a : ℕ) (e : E) (v : View E) (found : ℕ) (w : View E) : Type 0 where
  pub made : (xs : List (ℕ × E)) → v.made ≡ (a, xs) ∷ [] → w.made ≡ (a, xs ++ (found, e) ∷ []) ∷ []
  pub adds : Adds a e v.seen w.seen
  pub none : w.heard ≡ []
  pub length_is : found + 1 ≡ length w.seen
  pub legal : IsLegal enabled w.seen
