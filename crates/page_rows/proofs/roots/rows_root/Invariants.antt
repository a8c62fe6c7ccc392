-- the trees of the tables so far, of which each has at most nine
use Rattle.std.proofs.Common.{◌≡◌, ◌+◌, ◌*◌, ◌≤◌, length, take}
use Rattle.table_store.specs.Plans.{plan_from}
use Rattle.page_rows.proofs.roots.rows_root.Given as goal

abbrev pub invariant-tables : goal.invariant-tables
invariant-tables l = record {
  root : l.root ≡ 1 + length (plan_from 0 (take l.at l.schema));
  small : l.root ≤ 1 + 9 * l.at;
}
