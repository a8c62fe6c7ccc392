-- the values that are left are in the order of all
use Rattle.std.proofs.Common.{◌≡◌, length}
use Rattle.std.specs.Cmp.Lexicographic.{slice_cmp}
use Rattle.cdb_values.specs.Order.{value_order}
use Rattle.sql_eval.proofs.keys.values_order.Given as goal

abbrev pub invariant-comparing : goal.invariant-comparing
invariant-comparing l = slice_cmp value_order l.xs l.ys ≡ slice_cmp value_order l.a l.b

abbrev pub decreases-comparing : goal.decreases-comparing
decreases-comparing l = length l.xs
