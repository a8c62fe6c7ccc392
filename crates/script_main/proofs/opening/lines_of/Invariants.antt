use Rattle.std.proofs.Common.{◌≡◌, ◌++◌, length, map}
use Rattle.script_main.specs.Stores.{unsaid}
use Rattle.script_main.proofs.opening.lines_of.Given as goal

abbrev pub invariant-tables : goal.invariant-tables
invariant-tables l = l.lines ++ map unsaid l.rest ≡ map unsaid l.tables

abbrev pub decreases-tables : goal.decreases-tables
decreases-tables l = length l.rest
