-- the code of what was read stands before the rest
use Rattle.std.proofs.Common.{◌≡◌, ◌++◌, length}
use Rattle.std.specs.List.{AllByRecursion}
use Rattle.key_code.specs.Codes.{row_code, IsRowValue}
use Rattle.key_code.proofs.rows.decode_row.Given as goal

abbrev pub invariant-decoding : goal.invariant-decoding
invariant-decoding l = record {
  read : row_code l.values ++ l.rest ≡ l.bytes;
  kept : AllByRecursion IsRowValue l.values;
}

abbrev pub decreases-decoding : goal.decreases-decoding
decreases-decoding l = length l.rest
