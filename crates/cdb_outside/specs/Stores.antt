-- A log store means two lists of bytes: the synced bytes, which a stop leaves as they are, and the
-- pending bytes, which were appended since the last sync and of which a stop keeps some front.
use Rattle.std.specs.Prelude.{◌≡◌, ℕ, List, ◌++◌, take, drop, IfOk, Result}
use Rattle.std.specs.Io.{StartsWith}

-- a read gave bytes that stand in the synced ones from `at` on
abbrev pub GivesFrom : {E : Type 0} → List ℕ → ℕ → Result ℕ E → List ℕ → Type 0
GivesFrom synced at result buf = IfOk result (λ n. StartsWith (drop at synced) (take n buf))

-- some front of the pending bytes joined the synced ones
abbrev pub JoinsFront : List ℕ → List ℕ → List ℕ → Type 0
JoinsFront synced pending joined = (n : ℕ) × (joined ≡ synced ++ take n pending)
