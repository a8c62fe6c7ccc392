use Rattle.std.proofs.Common.{◌≡◌, ◌++◌, length}
use Rattle.cdb_values.specs.Changes.{changes_of}
use Rattle.cdb_values.specs.Rows.{apply_all}
use Rattle.turn_cases.specs.Plain.{rows_of}
use Rattle.turn_cases.proofs.rows.entry_behind.Given as goal

abbrev pub invariant-ops : goal.invariant-ops
invariant-ops l = (apply_all (rows_of l.rows) l.rest ≡ apply_all (rows_of l.before) l.ops) × (l.changes ++ changes_of l.rest l.rows.next ≡ changes_of l.ops l.before.next)

abbrev pub decreases-ops : goal.decreases-ops
decreases-ops l = length l.rest
