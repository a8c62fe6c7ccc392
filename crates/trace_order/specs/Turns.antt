-- What a loop did in which one actor after the other has its turn, each behind all that was done before it.
use Rattle.std.specs.Prelude.{ℕ, ◌+◌, ◌≡◌, ◌≤◌, List, [], ◌∷◌}
use Rattle.trace_order.specs.Done.{Done, AreUnder, AreRising, AreBelow, done_by}

-- an actor's steps, the oldest first, behind what was done
abbrev pub done_more : {E : Type 0} → ℕ → List (ℕ × E) → List (Done E) → List (Done E)
done_more k [] ds = ds
done_more k (x ∷ xs) ds = done_more k xs (record { ticket = x.0; by = k; event = x.1 } ∷ ds)

-- tickets from a on, each above the one before it, and below b
abbrev pub AreFrom : {E : Type 0} → ℕ → ℕ → List (ℕ × E) → Type 0
AreFrom a b [] = a ≤ b
AreFrom a b (x ∷ xs) = (a ≤ x.0) × AreFrom (x.0 + 1) b xs

-- n actors did just that, where the last one knows so many events
pub record IsSoFar {E : Type 0} (n size : ℕ) (made : ℕ → List (ℕ × E)) (done : List (Done E)) : Type 0 where
  pub rising : AreRising done
  pub under : AreUnder size done
  pub below : AreBelow n done
  pub steps : (k : ℕ) → made k ≡ done_by k done
