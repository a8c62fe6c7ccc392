-- the tables so far, before those that are left, are all
use Rattle.std.proofs.Common.{List, ◌++◌, length}
use Rattle.cdb_values.specs.declared.rows.Version.{Version}
use Rattle.table_state.specs.Grown.{lists_of}
use Rattle.table_state.specs.Listed.{AllClimb, AreTables}
use Rattle.table_state.proofs.TableLaws.{IsLeftOf}
use Rattle.table_state.proofs.tables.read_tables.Given as goal

abbrev pub invariant-tables : goal.invariant-tables
invariant-tables l = record {
  climb : AllClimb l.left;
  to : (left : List (List Version)) → AreTables l.next l.rest (lists_of l.left) left → AreTables l.next l.tables (lists_of l.trees) (l.found ++ left);
  from : (all : List (List Version)) → AreTables l.next l.tables (lists_of l.trees) all → IsLeftOf l.next l.rest l.left l.found all;
}

abbrev pub decreases-tables : goal.decreases-tables
decreases-tables l = length l.rest
