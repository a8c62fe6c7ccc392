-- Keys and their order: byte by byte, and a beginning comes before what it begins.
use Rattle.std.specs.Prelude.{ℕ, Bool, List}
use Rattle.std.specs.Ordering.{nat_cmp, is_lt, is_eq}
use Rattle.std.specs.Cmp.Lexicographic.{slice_cmp}

abbrev pub Key : Type 0
Key = List ℕ

-- whether a key comes before another
unfoldable pub before : Key → Key → Bool
before a b = is_lt (slice_cmp nat_cmp a b)

-- whether two keys are the same
unfoldable pub same_key : Key → Key → Bool
same_key a b = is_eq (slice_cmp nat_cmp a b)
