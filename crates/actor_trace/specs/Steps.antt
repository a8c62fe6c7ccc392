-- What a call does to the history that an actor knows. Others may have done something in between, the actor itself did not.
use Rattle.std.specs.Prelude.{ℕ, ◌≡◌, List, ◌∷◌, ◌++◌}
use Rattle.actor_trace.specs.History.{entries_of}

-- The actor a did e, and nothing else.
pub record Adds {E : Type 0} (a : ℕ) (e : E) (old new : List (ℕ × E)) : Type 0 where
  pub between : List (ℕ × E)
  pub whole : new ≡ (a, e) ∷ (between ++ old)
  pub none : entries_of a (between ++ old) ≡ entries_of a old

-- The actor a did nothing, and may know more.
pub record Rests {E : Type 0} (a : ℕ) (old new : List (ℕ × E)) : Type 0 where
  pub between : List (ℕ × E)
  pub whole : new ≡ between ++ old
  pub none : entries_of a (between ++ old) ≡ entries_of a old
