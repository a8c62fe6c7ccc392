-- what was added, with the code of the rest, is the whole code
use Rattle.std.proofs.Common.{◌≡◌, ◌++◌, length}
use Rattle.std.specs.List.{AllByRecursion}
use Rattle.key_code.specs.Codes.{row_code, IsShort, HasRowCode}
use Rattle.key_code.proofs.rows.encode_row.Given as goal

abbrev pub invariant-encoding : goal.invariant-encoding
invariant-encoding l = record {
  code : l.out.items ++ row_code l.rest ≡ row_code l.fn.row;
  range : AllByRecursion HasRowCode l.rest → AllByRecursion HasRowCode l.fn.row;
  short : AllByRecursion IsShort l.rest;
}

abbrev pub decreases-encoding : goal.decreases-encoding
decreases-encoding l = length l.rest
