-- the keys so far were done, and those that are left can be
use Rattle.std.proofs.Common.{◌≡◌, ◌≤◌, ◌<◌, ◌+◌, List, ◌++◌, length, Some}
use Rattle.std.specs.List.{AllByRecursion}
use Rattle.page_workspace.specs.Drafts.{meant}
use Rattle.cdb_values.specs.Rows.{Rows}
use Rattle.table_store.specs.Operations.{born}
use Rattle.table_store.specs.Plans.{Planned, key_trees}
use Rattle.table_changes.specs.Changed.{IsPuttable}
use Rattle.table_edits.specs.Halfway.{IsHalfway}
use Rattle.table_edits.specs.Kept.{Store}
use Rattle.table_edits.proofs.PassLemmas.{IsKeysDone}
use Rattle.table_edits.proofs.trees.change_keys.Given as goal

abbrev pub invariant-keys : goal.invariant-keys
invariant-keys g l = record {
  done : (start : Store) (rows : Rows) (plan left : List Planned) → l.place < length rows.tables
      → IsHalfway start (meant g.P.PageSource.pages l.fn.space) rows l.ops plan l.next l.root (key_trees l.place l.keys ++ left)
      → IsKeysDone start (meant g.P.PageSource.pages l.space) rows l.ops plan l.next (l.root + l.at) l.place l.at l.rest l.keys left;
  count : l.at + length l.rest ≡ length l.keys;
  fit : AllByRecursion (λ key. AllByRecursion (IsPuttable (Some key)) (born l.place l.next l.ops)) l.rest;
  base : g.P.PageSource.pages l.space.base ≡ g.P.PageSource.pages l.fn.space.base;
  losses : g.P.PageSource.losses l.fn.space.base ≤ g.P.PageSource.losses l.space.base;
}

abbrev pub decreases-keys : goal.decreases-keys
decreases-keys g l = length l.rest
