-- Equal columns, where no value is left.
use Rattle.std.proofs.Common.{◌≡◌, ℕ, List, [], ◌∷◌, true, refl}
use Rattle.cdb_values.specs.declared.values.Value.{Value}
use Rattle.session_language.specs.Intervals.{are_equal}

pub none_left : (columns : List ℕ) (row : List Value) → are_equal columns [] row ≡ true
none_left [] row = refl
none_left (c ∷ columns) row = refl
