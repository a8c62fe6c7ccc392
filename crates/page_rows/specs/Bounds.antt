-- Where the pairs of an interval stand in the tree of its key: not before a low key, and before a high one.
--
-- Both begin with the code of the values that the first columns equal. Behind it stands what the bound of the next
-- column says. A key goes on with the code of that column's value, then with those of the others, and may end in a
-- genid; nine bytes 255 come after all of these.
--
--     key (v, id), not unique      v = 3 and id > 5           v = 3
--     low                          3 5 FF..                   3
--     high                         3 FF..                     3 FF..
--
-- Where the key has no next column, no bound counts.
use Rattle.std.specs.Prelude.{◌≡◌, ℕ, ◌<◌, true, false, List, [], ◌∷◌, ◌++◌, length, slice_get, Option, None, Some}
use Rattle.std.specs.List.{AllByRecursion}
use Rattle.btree_index.specs.Keys.{Key, before}
use Rattle.cdb_values.specs.Good.{key_of}
use Rattle.cdb_values.specs.declared.tables.KeyDef.{KeyDef}
use Rattle.cdb_values.specs.declared.values.Value.{Value}
use Rattle.key_code.specs.Codes.{key_value, key_code, IsInRange}
use Rattle.query_laws.specs.Intervals.{Interval, lies_by, Edge, Free, AtLeast, Above, AtMost, Below}

-- nine bytes 255: a code of values begins with a lower byte, and a genid has eight bytes
abbrev pub beyond : List ℕ
beyond = 255 ∷ 255 ∷ 255 ∷ 255 ∷ 255 ∷ 255 ∷ 255 ∷ 255 ∷ 255 ∷ []

-- what comes after NULL, whose code is a byte 0, where a high bound wants a value
abbrev pub after_null : Edge → List ℕ
after_null Free = []
after_null (AtLeast value) = []
after_null (Above value) = []
after_null (AtMost value) = 1 ∷ []
after_null (Below value) = 1 ∷ []

-- what two bounds put behind the equal values: where the pairs begin, and where they end
abbrev pub low_end : Edge → Edge → List ℕ
low_end Free high = after_null high
low_end (AtLeast value) high = key_value value
low_end (Above value) high = key_value value ++ beyond
low_end (AtMost value) high = after_null high
low_end (Below value) high = after_null high

abbrev pub high_end : Edge → List ℕ
high_end Free = beyond
high_end (AtLeast value) = beyond
high_end (Above value) = beyond
high_end (AtMost value) = key_value value ++ beyond
high_end (Below value) = key_value value

-- a bound of the next column, where there is one
abbrev pub counted_edge : Option ℕ → Edge → Edge
counted_edge None edge = Free
counted_edge (Some column) edge = edge

-- the keys between which the pairs stand, for a key over these columns
abbrev pub low_key : List ℕ → List Value → Edge → Edge → List ℕ
low_key columns equal low high =
    key_code equal ++ low_end (counted_edge (slice_get columns (length equal)) low) (counted_edge (slice_get columns (length equal)) high)

abbrev pub high_key : List ℕ → List Value → Edge → List ℕ
high_key columns equal high = key_code equal ++ high_end (counted_edge (slice_get columns (length equal)) high)

-- the value that such a key ends in is one that has a code
abbrev pub IsLowInRange : Edge → Type 0
IsLowInRange Free = Unit {0}
IsLowInRange (AtLeast value) = IsInRange value
IsLowInRange (Above value) = IsInRange value
IsLowInRange (AtMost value) = Unit {0}
IsLowInRange (Below value) = Unit {0}

abbrev pub IsHighInRange : Edge → Type 0
IsHighInRange Free = Unit {0}
IsHighInRange (AtLeast value) = Unit {0}
IsHighInRange (Above value) = Unit {0}
IsHighInRange (AtMost value) = IsInRange value
IsHighInRange (Below value) = IsInRange value

-- bytes that may stand behind a code: fewer than nine
pub record IsTail (bytes : List ℕ) : Type 0 where
  pub small : AllByRecursion (λ b. b < 256) bytes
  pub short : length bytes < 9

-- the key of each row in an interval, with such bytes behind it, is not before the low one, and before the high one
abbrev pub AreEnds : KeyDef → Interval → Key → Key → Type 0
AreEnds key interval low high =
    (row : List Value) (tail : List ℕ) → IsTail tail → AllByRecursion IsInRange (key_of key row) → lies_by (Some key) interval row ≡ true
    → (before (key_code (key_of key row) ++ tail) low ≡ false) × (before (key_code (key_of key row) ++ tail) high ≡ true)
