-- The pairs of the rows in an interval stand between the two keys of the interval.
use Rattle.std.proofs.Common.{◌≡◌, ℕ, Bool, true, false, ◌&&◌, ◌||◌, if◌then◌else◌, List, [], ◌∷◌, ◌++◌, length, map, refl, sym, ap, ◌∙◌, subst, append_assoc}
use Rattle.std.proofs.lemmas.Bool.{false≢true}
use Rattle.std.specs.List.{AllByRecursion, slice_get}
use Rattle.std.specs.declared.cmp.Ordering.{Ordering}
use Rattle.std.specs.declared.cmp.Ordering.TheVariants.{Less, Equal, Greater}
use Rattle.std.specs.Ordering.{is_eq, is_lt}
use Rattle.session_language.specs.Intervals.{cell, is_null}
use Rattle.btree_index.specs.Keys.{Key, before}
use Rattle.cdb_values.specs.Order.{value_order}
use Rattle.cdb_values.specs.declared.tables.KeyDef.{KeyDef}
use Rattle.cdb_values.specs.declared.values.Value.{Value}
use Rattle.sql_bind.specs.declared.types.Cmp.{Cmp}
use Rattle.sql_bind.specs.declared.types.Cmp.TheVariants as cmp
use Rattle.byteorder.specs.Endian.{big_bytes}
use Rattle.cdb_values.specs.declared.values.Value.TheVariants.{Null, Int, Text, Blob}
use Rattle.key_code.specs.Codes.{lifted, key_value, key_code, IsInRange}
use Rattle.key_code.proofs.NumberLaws.{byte_order}
use Rattle.sql_answer.specs.Truth.{Unknown, is_yes, truth_of, stands, compared}
use Rattle.query_laws.specs.Intervals.{Interval, Edge, Free, AtLeast, Above, AtMost, Below, is_within, are_equal, is_between}
use Rattle.page_rows.specs.Bounds.{IsTail, AreEnds, beyond, after_null, low_end, high_end, counted_edge, low_key, high_key, IsLowInRange, IsHighInRange}
use Rattle.page_rows.proofs.OrderLemmas.{under_beyond, none_under, from_value, above_value, to_value, below_value, same_first}

pub both : (a b : Bool) → (a && b) ≡ true → (a ≡ true) × (b ≡ true)
both true b h = (refl, h)
both false b h = absurd (false≢true h)

yes_truth : (b : Bool) → is_yes (truth_of b) ≡ true → b ≡ true
yes_truth true h = refl
yes_truth false h = absurd (false≢true h)

-- a comparison that is true
stands_so : (op : Cmp) (a b : Value) → is_yes (compared op a b) ≡ true → stands op (value_order a b) ≡ true
stands_so op a b h = go (is_null a || is_null b) h
  where
    go : (n : Bool) → is_yes (if n then Unknown else truth_of (stands op (value_order a b))) ≡ true → stands op (value_order a b) ≡ true
    go true k = absurd (false≢true k)
    go false k = yes_truth (stands op (value_order a b)) k

is_equal : (o : Ordering) → is_eq o ≡ true → o ≡ Equal
is_equal Less h = absurd (false≢true h)
is_equal Equal h = refl
is_equal Greater h = absurd (false≢true h)

-- a value that is compared is not NULL
not_null : (op : Cmp) (a b : Value) → is_yes (compared op a b) ≡ true → is_null a ≡ false
not_null op a b h = go (is_null a) h
  where
    go : (n : Bool) → is_yes (if n || is_null b then Unknown else truth_of (stands op (value_order a b))) ≡ true → n ≡ false
    go true k = absurd (false≢true k)
    go false k = refl

some_value : (v : Value) (values : List Value) (tail : List ℕ) → is_null v ≡ false → is_lt (byte_order (key_code (v ∷ values) ++ tail) (1 ∷ [])) ≡ false
some_value Null values tail e = absurd (false≢true (sym e))
some_value (Int x) values tail e = none_under ((big_bytes 8 (lifted x) ++ key_code values) ++ tail)
some_value (Text x) values tail e = refl
some_value (Blob x) values tail e = refl

past_null : (high : Edge) (v : Value) (values : List Value) (tail : List ℕ) → is_within high v ≡ true
    → is_lt (byte_order (key_code (v ∷ values) ++ tail) (after_null high)) ≡ false
past_null Free v values tail w = none_under (key_code (v ∷ values) ++ tail)
past_null (AtLeast x) v values tail w = none_under (key_code (v ∷ values) ++ tail)
past_null (Above x) v values tail w = none_under (key_code (v ∷ values) ++ tail)
past_null (AtMost x) v values tail w = some_value v values tail (not_null cmp.Le v x w)
past_null (Below x) v values tail w = some_value v values tail (not_null cmp.Lt v x w)

-- the value of the next column, within its bounds, decides
low_next : (low high : Edge) (v : Value) (values : List Value) (tail : List ℕ) → IsInRange v → IsLowInRange low → is_within low v ≡ true → is_within high v ≡ true
    → is_lt (byte_order (key_code (v ∷ values) ++ tail) (low_end low high)) ≡ false
low_next Free high v values tail h k w u = past_null high v values tail u
low_next (AtLeast x) high v values tail h k w u = from_value v x values tail h k (stands_so cmp.Ge v x w)
low_next (Above x) high v values tail h k w u = above_value v x values tail beyond h k (stands_so cmp.Gt v x w)
low_next (AtMost x) high v values tail h k w u = past_null high v values tail u
low_next (Below x) high v values tail h k w u = past_null high v values tail u

high_next : (edge : Edge) (v : Value) (values : List Value) (tail : List ℕ) → IsTail tail → IsInRange v → IsHighInRange edge → is_within edge v ≡ true
    → is_lt (byte_order (key_code (v ∷ values) ++ tail) (high_end edge)) ≡ true
high_next Free v values tail t h k w = ap is_lt (under_beyond (v ∷ values) tail t)
high_next (AtLeast x) v values tail t h k w = ap is_lt (under_beyond (v ∷ values) tail t)
high_next (Above x) v values tail t h k w = ap is_lt (under_beyond (v ∷ values) tail t)
high_next (AtMost x) v values tail t h k w = to_value v x values tail t h k (stands_so cmp.Le v x w)
high_next (Below x) v values tail t h k w = below_value v x values tail h k (stands_so cmp.Lt v x w)

-- the values of a row in these columns
abbrev pub cells : List Value → List ℕ → List Value
cells row columns = map (cell row) columns

-- equal values in front do not decide
front_order : (x v : Value) (values others : List Value) (tail end : List ℕ) → IsInRange x → IsInRange v → is_yes (compared cmp.Eq x v) ≡ true
    → byte_order (key_code (x ∷ values) ++ tail) (key_code (v ∷ others) ++ end) ≡ byte_order (key_code values ++ tail) (key_code others ++ end)
front_order x v values others tail end h k e =
    ap (byte_order (key_code (x ∷ values) ++ tail)) (append_assoc (key_value v) (key_code others) end)
    ∙ same_first x v values tail (key_code others ++ end) h k (is_equal (value_order x v) (stands_so cmp.Eq x v e))

from_low : (columns : List ℕ) (equal : List Value) (low high : Edge) (row : List Value) (tail : List ℕ) → AllByRecursion IsInRange (cells row columns)
    → AllByRecursion IsInRange equal → IsLowInRange (counted_edge (slice_get columns (length equal)) low) → are_equal columns equal row ≡ true
    → is_between (slice_get columns (length equal)) low high row ≡ true
    → is_lt (byte_order (key_code (cells row columns) ++ tail) (low_key columns equal low high)) ≡ false
from_low [] [] low high row tail r s k e b = none_under tail
from_low (c ∷ cs) [] low high row tail r s k e b =
    let m = both (is_within low (cell row c)) (is_within high (cell row c)) b in
    low_next low high (cell row c) (cells row cs) tail r.0 k m.0 m.1
from_low [] (v ∷ vs) low high row tail r s k e b = absurd (false≢true e)
from_low (c ∷ cs) (v ∷ vs) low high row tail r s k e b =
    let same = both (is_yes (compared cmp.Eq (cell row c) v)) (are_equal cs vs row) e in
    ap is_lt (front_order (cell row c) v (cells row cs) vs tail
    (low_end (counted_edge (slice_get cs (length vs)) low) (counted_edge (slice_get cs (length vs)) high)) r.0 s.0 same.0)
    ∙ from_low cs vs low high row tail r.1 s.1 k same.1 b

to_high : (columns : List ℕ) (equal : List Value) (low high : Edge) (row : List Value) (tail : List ℕ) → IsTail tail → AllByRecursion IsInRange (cells row columns)
    → AllByRecursion IsInRange equal → IsHighInRange (counted_edge (slice_get columns (length equal)) high) → are_equal columns equal row ≡ true
    → is_between (slice_get columns (length equal)) low high row ≡ true
    → is_lt (byte_order (key_code (cells row columns) ++ tail) (high_key columns equal high)) ≡ true
to_high [] [] low high row tail t r s k e b = ap is_lt (under_beyond [] tail t)
to_high (c ∷ cs) [] low high row tail t r s k e b =
    high_next high (cell row c) (cells row cs) tail t r.0 k (both (is_within low (cell row c)) (is_within high (cell row c)) b).1
to_high [] (v ∷ vs) low high row tail t r s k e b = absurd (false≢true e)
to_high (c ∷ cs) (v ∷ vs) low high row tail t r s k e b =
    let same = both (is_yes (compared cmp.Eq (cell row c) v)) (are_equal cs vs row) e in
    ap is_lt (front_order (cell row c) v (cells row cs) vs tail (high_end (counted_edge (slice_get cs (length vs)) high)) r.0 s.0 same.0)
    ∙ to_high cs vs low high row tail t r.1 s.1 k same.1 b

-- the keys of an interval are its ends
pub are_ends : (key : KeyDef) (interval : Interval) → AllByRecursion IsInRange interval.equal
    → IsLowInRange (counted_edge (slice_get key.columns (length interval.equal)) interval.low)
    → IsHighInRange (counted_edge (slice_get key.columns (length interval.equal)) interval.high)
    → AreEnds key interval (low_key key.columns interval.equal interval.low interval.high) (high_key key.columns interval.equal interval.high)
unfolding before
are_ends key interval s l h = λ row tail t r e.
    let m = both (are_equal key.columns interval.equal row) (is_between (slice_get key.columns (length interval.equal)) interval.low interval.high row) e in (
      from_low key.columns interval.equal interval.low interval.high row tail r s l m.0 m.1,
      to_high key.columns interval.equal interval.low interval.high row tail t r s h m.0 m.1,
    )

pub ends_are : (key : KeyDef) (interval : Interval) (columns : List ℕ) (low high : Key) → columns ≡ key.columns → AllByRecursion IsInRange interval.equal
    → IsLowInRange (counted_edge (slice_get columns (length interval.equal)) interval.low)
    → IsHighInRange (counted_edge (slice_get columns (length interval.equal)) interval.high)
    → low ≡ low_key columns interval.equal interval.low interval.high → high ≡ high_key columns interval.equal interval.high → AreEnds key interval low high
ends_are key interval columns low high c s l h el eh =
    let small = subst (λ (cs : List ℕ). IsLowInRange (counted_edge (slice_get cs (length interval.equal)) interval.low)) c l in
    let large = subst (λ (cs : List ℕ). IsHighInRange (counted_edge (slice_get cs (length interval.equal)) interval.high)) c h in
    let first : low ≡ low_key key.columns interval.equal interval.low interval.high = el ∙ ap (λ (cs : List ℕ). low_key cs interval.equal interval.low interval.high) c in
    let last : high ≡ high_key key.columns interval.equal interval.high = eh ∙ ap (λ (cs : List ℕ). high_key cs interval.equal interval.high) c in
    subst (λ (k : Key). AreEnds key interval k high) (sym first)
    (subst (λ (k : Key). AreEnds key interval (low_key key.columns interval.equal interval.low interval.high) k) (sym last) (are_ends key interval s small large))
