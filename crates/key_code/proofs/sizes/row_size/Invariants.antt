-- the size so far, with that of the rest, is the whole
use Rattle.std.proofs.Common.{◌≡◌, ◌+◌, ◌-◌, ◌^◌, ◌≤◌, min, length}
use Rattle.cdb_values.specs.Good.{bytes_of_row}
use Rattle.key_code.proofs.sizes.row_size.Given as goal

abbrev pub invariant-measuring : goal.invariant-measuring
invariant-measuring l = record { fits : l.size ≤ 2 ^ 64 - 1; whole : min (l.size + bytes_of_row l.rest) (2 ^ 64 - 1) ≡ min (bytes_of_row l.fn.row) (2 ^ 64 - 1) }

abbrev pub decreases-measuring : goal.decreases-measuring
decreases-measuring l = length l.rest
