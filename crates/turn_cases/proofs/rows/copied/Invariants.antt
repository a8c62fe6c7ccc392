use Rattle.std.proofs.Common.{◌≡◌, ◌++◌, length}
use Rattle.turn_cases.proofs.rows.copied.Given as goal

abbrev pub invariant-tables : goal.invariant-tables
invariant-tables l = l.copies ++ l.rest ≡ l.tables

abbrev pub decreases-tables : goal.decreases-tables
decreases-tables l = length l.rest
