use Rattle.std.proofs.Common.{◌-◌, length}
use Rattle.node_opening.proofs.TableLemmas.{IsFirst}
use Rattle.node_opening.proofs.tables.count_same.Given as goal

abbrev pub invariant-tables : goal.invariant-tables
invariant-tables l = IsFirst l.given l.logged l.same

abbrev pub decreases-tables : goal.decreases-tables
decreases-tables l = length l.given - l.same
