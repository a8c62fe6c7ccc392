-- Two rows with the same values at a key.
use Rattle.std.proofs.Common.{◌≡◌, ℕ, ◌∷◌, List, Bool, true, false, map, refl}
use Rattle.std.specs.Prelude.{slice_get, unwrap_or}
use Rattle.std.specs.declared.cmp.Ordering.{Ordering}
use Rattle.std.specs.declared.cmp.Ordering.TheVariants.{Less, Equal, Greater}
use Rattle.std.specs.Ordering.{is_eq, ordering_then}
use Rattle.cdb_values.specs.Good.{same_values}
use Rattle.cdb_values.specs.Order.{value_order}
use Rattle.cdb_values.specs.declared.values.Value.{Value}
use Rattle.cdb_values.specs.declared.values.Value.TheVariants.{Null}

-- the value of a row in a column, and NULL past its end
abbrev pub at_column : List Value → ℕ → Value
at_column row column = unwrap_or (slice_get row column) Null

-- whether two rows have the same values at these columns
abbrev pub same_at : List Value → List Value → List ℕ → Bool
same_at a b columns = same_values (map (λ column. at_column a column) columns) (map (λ column. at_column b column) columns)

then_same : (first second : Ordering) → is_eq first ≡ true → is_eq (ordering_then first second) ≡ is_eq second
then_same Equal second is = refl
then_same Less second is = cc
then_same Greater second is = cc

then_apart : (first second : Ordering) → is_eq first ≡ false → is_eq (ordering_then first second) ≡ false
then_apart Equal second is = cc
then_apart Less second is = refl
then_apart Greater second is = refl

-- a column with the same value leaves it to the others
pub same_more : (a b : List Value) (column : ℕ) (columns : List ℕ) → is_eq (value_order (at_column a column) (at_column b column)) ≡ true
    → same_at a b (column ∷ columns) ≡ same_at a b columns
same_more a b column columns is = then_same _ _ is

-- a column with other values decides
pub same_stops : (a b : List Value) (column : ℕ) (columns : List ℕ) → is_eq (value_order (at_column a column) (at_column b column)) ≡ false
    → same_at a b (column ∷ columns) ≡ false
same_stops a b column columns is = then_apart _ _ is
