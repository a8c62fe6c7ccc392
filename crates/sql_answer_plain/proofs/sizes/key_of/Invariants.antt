-- the values so far, before those of the columns that are left, are those of all
use Rattle.std.proofs.Common.{◌≡◌, ◌++◌, map, length}
use Rattle.session_language.specs.Intervals.{cell}
use Rattle.sql_answer_plain.proofs.sizes.key_of.Given as goal

abbrev pub invariant-columns : goal.invariant-columns
invariant-columns l = l.values ++ map (cell l.row) l.rest ≡ map (cell l.row) l.key.columns

abbrev pub decreases-columns : goal.decreases-columns
decreases-columns l = length l.rest
