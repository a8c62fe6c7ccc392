-- Views: what a seat at the table knows.
use Rattle.std.specs.Prelude.{ℕ, ◌≡◌, ◌<◌, List, [], ◌∷◌, ◌++◌, map}
use Rattle.atomic_table.specs.Table.{Me}
use Rattle.actor_trace.specs.declared.view.View.{View}
use Rattle.actor_trace.specs.Lists.{In, Begins, deal}
use Rattle.actor_trace.specs.History.{entries_of}
use Rattle.actor_trace.specs.Actors.{Knows, tag_of}

abbrev pub a_view : {E : Type 0} → List (ℕ × List (ℕ × E)) → List (ℕ × E) → List (List (ℕ × E)) → View E
a_view m s h = record { made = m; seen = s; heard = h }

-- What the view says is true of the history.
pub record Fits {E : Type 0} (n : ℕ) (log : List (ℕ × E)) (v : View E) : Type 0 where
  pub sees : Begins v.seen log
  pub hears : (s : List (ℕ × E)) → In s v.heard → Begins s log
  pub made : (a : ℕ) (xs : List (ℕ × E)) → In (a, xs) v.made → (a < n) × (xs ≡ entries_of a log)

-- the first view, which has all numbers from 0 to n - 1
abbrev pub all_of : {E : Type 0} → ℕ → View E
all_of n = a_view (deal 0 n) [] []

-- the first number, and the others
abbrev pub front : {E : Type 0} → List (ℕ × List (ℕ × E)) → List (ℕ × List (ℕ × E))
front [] = []
front (x ∷ xs) = x ∷ []

abbrev pub others : {E : Type 0} → List (ℕ × List (ℕ × E)) → List (ℕ × List (ℕ × E))
others [] = []
others (x ∷ xs) = xs

-- what the last seat has, once it took in these actors
abbrev pub has : {E : Type 0} → List (Knows E) → Me (Unit {0}) (View E)
has actors = (a_view (map tag_of actors) [] (map (λ a. a.seen) actors), [])

-- and one actor more
abbrev pub has_too : {E : Type 0} → Me (Unit {0}) (View E) → Knows E → Me (Unit {0}) (View E)
has_too me x = (a_view (me.0.made ++ tag_of x ∷ []) me.0.seen (me.0.heard ++ x.seen ∷ []), me.1)
