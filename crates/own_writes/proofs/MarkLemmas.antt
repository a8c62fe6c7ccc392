-- Equal values have equal marks, so that what has no mark of a value has another value.
use Rattle.std.proofs.Common.{◌≡◌, ℕ, List, Bool, true, false, refl, ap, subst, ◌∙◌}
use Rattle.std.proofs.lemmas.Map.Lookups.{exact_signed, exact_bytes}
use Rattle.std.specs.BTreeSet.{BTreeSet}
use Rattle.std.specs.Ordering.{is_eq, int_cmp, nat_cmp}
use Rattle.std.specs.Cmp.Lexicographic.{slice_cmp}
use Rattle.std.specs.Prelude.{slice_get, unwrap_or, not, ◌&&◌, Option, Some, None, length}
use Rattle.std.specs.declared.cmp.Ordering.{Ordering}
use Rattle.std.specs.declared.cmp.Ordering.TheVariants.{Less, Equal, Greater}
use Rattle.cdb_values.specs.declared.items.Interval.{Interval}
use Rattle.cdb_values.specs.declared.tables.KeyDef.{KeyDef}
use Rattle.cdb_values.specs.declared.tables.TableDef.{TableDef}
use Rattle.cdb_values.specs.declared.values.Value.{Value}
use Rattle.cdb_values.specs.declared.values.Value.TheVariants.{Null, Int, Text, Blob}
use Rattle.session_language.specs.Intervals.{are_equal, cell, is_between, keys_in, lies, lies_at, lies_by, stand_so}
use Rattle.own_writes.specs.Kept.{HasColumns, has}
use Rattle.own_writes.specs.Marks.{column_mark}

is_equal : (o : Ordering) → is_eq o ≡ true → o ≡ Equal
is_equal Less is_so = cc
is_equal Equal is_so = refl
is_equal Greater is_so = cc

pub equal_is : (a b : Value) → stand_so is_eq a b ≡ true → a ≡ b
equal_is Null b is_so = cc
equal_is (Int x) Null is_so = cc
equal_is (Int x) (Int y) is_so = ap Int (exact_signed x y (is_equal (int_cmp x y) is_so))
equal_is (Int x) (Text y) is_so = cc
equal_is (Int x) (Blob y) is_so = cc
equal_is (Text x) Null is_so = cc
equal_is (Text x) (Int y) is_so = cc
equal_is (Text x) (Text y) is_so = ap Text (exact_bytes x y (is_equal (slice_cmp nat_cmp x y) is_so))
equal_is (Text x) (Blob y) is_so = cc
equal_is (Blob x) Null is_so = cc
equal_is (Blob x) (Int y) is_so = cc
equal_is (Blob x) (Text y) is_so = cc
equal_is (Blob x) (Blob y) is_so = ap Blob (exact_bytes x y (is_equal (slice_cmp nat_cmp x y) is_so))

pub is_no : (b : Bool) → (b ≡ true → ⊥) → b ≡ false
is_no true never = absurd (never refl)
is_no false never = refl

-- a row all of whose columns have their marks, and which has not that of a value in a column, has not the value there
pub passed_by : (marks : BTreeSet ℕ) (stamp table column : ℕ) (row : List Value) (value : Value) → HasColumns marks stamp table row →
    has marks (column_mark table column value) stamp ≡ false → stand_so is_eq (cell row column) value ≡ false
passed_by marks stamp table column row value marked none = go (slice_get row column) refl
  where
    go : (found : Option Value) → slice_get row column ≡ found → stand_so is_eq (unwrap_or found Null) value ≡ false
    go None is = refl
    go (Some v) is = is_no (stand_so is_eq v value) (λ is_so. apart (subst (λ (w : Value). has marks (column_mark table column w) stamp ≡ true) (equal_is v value is_so) (marked column v is)))
      where
        apart : has marks (column_mark table column value) stamp ≡ true → ⊥
        apart has_it = cc

pub and_no : (b : Bool) → (b && false) ≡ false
and_no true = refl
and_no false = refl

-- a row without the values of an interval in the first columns of its key is not in the interval
pub lies_not : (tables : List TableDef) (i : Interval) (k : ℕ) (table : TableDef) (key : KeyDef) (row : List Value) →
    i.key ≡ Some k → slice_get tables i.table ≡ Some table → slice_get table.keys k ≡ Some key →
    are_equal key.columns i.equal row ≡ false → lies tables i row ≡ false
lies_not tables i k table key row by at of apart =
    ap (λ (t : Option TableDef). not i.empty && lies_at (keys_in t) i.key i row) at
    ∙ ap (λ (n : Option ℕ). not i.empty && lies_at table.keys n i row) by
    ∙ ap (λ (d : Option KeyDef). not i.empty && lies_by d i row) of
    ∙ ap (λ (b : Bool). not i.empty && (b && is_between (slice_get key.columns (length i.equal)) i.low i.high row)) apart
    ∙ and_no (not i.empty)
