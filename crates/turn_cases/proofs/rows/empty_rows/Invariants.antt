use Rattle.std.proofs.Common.{◌≡◌, ◌++◌, [], length, map}
use Rattle.turn_cases.proofs.rows.empty_rows.Given as goal

abbrev pub invariant-tables : goal.invariant-tables
invariant-tables l = l.lists ++ map (λ _. []) l.rest ≡ map (λ _. []) l.tables

abbrev pub decreases-tables : goal.decreases-tables
decreases-tables l = length l.rest
