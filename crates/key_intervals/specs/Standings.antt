-- How two values that are not NULL are to stand in their order, for each kind of bound.
use Rattle.std.specs.Prelude.{Bool}
use Rattle.std.specs.declared.cmp.Ordering.{Ordering}
use Rattle.std.specs.Ordering.{is_eq, is_lt, is_le, is_gt, is_ge}
use Rattle.key_intervals.specs.declared.lying.Standing.{Standing}
use Rattle.key_intervals.specs.declared.lying.Standing.TheVariants.{Equal, AtLeast, Above, AtMost, Below}

abbrev pub meets : Standing → Ordering → Bool
meets Equal = is_eq
meets AtLeast = is_ge
meets Above = is_gt
meets AtMost = is_le
meets Below = is_lt
