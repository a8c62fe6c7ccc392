-- The order of values.
--
-- NULL comes first, then the integers by their size, then the texts and then the blobs, each of
-- them by their bytes: the first byte that differs decides, and a beginning comes before what it begins.
use Rattle.std.specs.Prelude.{ℕ}
use Rattle.std.specs.declared.cmp.Ordering.{Ordering}
use Rattle.std.specs.Ordering.{nat_cmp, int_cmp}
use Rattle.std.specs.Cmp.Lexicographic.{slice_cmp}
use Rattle.cdb_values.specs.declared.values.Value.{Value}
use Rattle.cdb_values.specs.declared.values.Value.TheVariants.{Null, Int, Text, Blob}

-- the place of a value's kind in the order
abbrev pub rank : Value → ℕ
rank Null = 0
rank (Int _) = 1
rank (Text _) = 2
rank (Blob _) = 3

abbrev pub value_order : Value → Value → Ordering
value_order (Int x) (Int y) = int_cmp x y
value_order (Text x) (Text y) = slice_cmp nat_cmp x y
value_order (Blob x) (Blob y) = slice_cmp nat_cmp x y
value_order a b = nat_cmp (rank a) (rank b)
