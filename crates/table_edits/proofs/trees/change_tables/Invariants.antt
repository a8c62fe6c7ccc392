-- the tables so far were done
use Rattle.std.proofs.Common.{◌≡◌, ◌≤◌, ◌+◌, ◌*◌, length}
use Rattle.page_workspace.specs.Drafts.{meant}
use Rattle.cdb_values.specs.Rows.{Rows}
use Rattle.table_store.specs.Plans.{plan_from}
use Rattle.table_edits.specs.Halfway.{IsHalfway}
use Rattle.table_edits.specs.Kept.{Store}
use Rattle.table_edits.proofs.PassLemmas.{IsTablesDone}
use Rattle.table_edits.proofs.trees.change_tables.Given as goal

abbrev pub invariant-tables : goal.invariant-tables
invariant-tables g l = record {
  done : (start : Store) (rows : Rows) → length rows.tables ≡ length l.schema
      → IsHalfway start (meant g.P.PageSource.pages l.fn.space) rows l.ops (plan_from 0 l.schema) l.next 1 (plan_from 0 l.schema)
      → IsTablesDone start (meant g.P.PageSource.pages l.space) rows l.ops l.schema l.next l.root l.place;
  low : l.root ≤ 1 + 9 * l.place;
  base : g.P.PageSource.pages l.space.base ≡ g.P.PageSource.pages l.fn.space.base;
  losses : g.P.PageSource.losses l.fn.space.base ≤ g.P.PageSource.losses l.space.base;
}
