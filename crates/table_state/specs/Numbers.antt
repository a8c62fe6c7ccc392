-- Whether numbers rise, each above a least one and below a limit.
use Rattle.std.specs.Prelude.{ℕ, ◌&&◌, Bool, true, List, [], ◌∷◌, nat_lt}

abbrev pub rise_from : ℕ → ℕ → List ℕ → Bool
rise_from low limit [] = true
rise_from low limit (x ∷ xs) = nat_lt low x && (nat_lt x limit && rise_from x limit xs)
