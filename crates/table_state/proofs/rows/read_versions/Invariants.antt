-- the versions so far, before those of the cells that are left, are those of all
use Rattle.std.proofs.Common.{List, ◌++◌, length}
use Rattle.cdb_values.specs.declared.rows.Version.{Version}
use Rattle.table_state.specs.Listed.{AreCellsOf}
use Rattle.table_state.proofs.ListedLaws.{IsLeft}
use Rattle.table_state.proofs.rows.read_versions.Given as goal

abbrev pub invariant-reading : goal.invariant-reading
invariant-reading l = record {
  to : (left : List Version) → AreCellsOf l.table l.least l.next l.rest left → AreCellsOf l.table 0 l.next l.cells (l.versions.items ++ left);
  from : (all : List Version) → AreCellsOf l.table 0 l.next l.cells all → IsLeft l.table l.least l.next l.rest l.versions.items all;
}

abbrev pub decreases-reading : goal.decreases-reading
decreases-reading l = length l.rest
