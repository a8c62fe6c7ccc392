-- Pages on which operations are done tree after tree, in the order of the plan: the trees that were done list the state
-- after all operations, and those that are left list the state before them. So no state between two operations is ever
-- on the pages of one tree, and each tree is changed once.
--
-- Of a plan of three trees, with the first one done:
--
--     done      the rows of t       root 1   before ∷ []           the state after
--     left      the key k of t      root 2   behind                the state before
--               the rows of u       root 3
use Rattle.std.specs.Prelude.{◌≡◌, ℕ, ◌+◌, List, ◌++◌, length, Option}
use Rattle.std.specs.List.{AllByRecursion}
use Rattle.page_store.specs.Image.{Image}
use Rattle.page_workspace.specs.Spare.{next_genid}
use Rattle.btree_index.specs.Changes.{Changes, LosesNone}
use Rattle.cdb_values.specs.Rows.{Rows, apply_all}
use Rattle.cdb_values.specs.declared.rows.RowOp.{RowOp}
use Rattle.cdb_values.specs.declared.tables.KeyDef.{KeyDef}
use Rattle.table_store.specs.Forests.{Pair, joined, Forest}
use Rattle.table_store.specs.Listings.{AreLists}
use Rattle.table_store.specs.Plans.{Planned}
use Rattle.table_store.specs.States.{AreVersions}
use Rattle.table_edits.specs.Filled.{KeepsLeavesFilled}
use Rattle.table_edits.specs.Fits.{AreAllDoable}
use Rattle.table_edits.specs.Freed.{DoesTrees}
use Rattle.table_edits.specs.Kept.{Store, LeavesUnnamed}

-- the tree of a table's rows, or of one of its keys
abbrev pub planned : ℕ → Option KeyDef → Planned
planned table key = record { table = table; key = key }

-- from a store at the start, operations on a state were done on the trees of the plan but for those that are left, of which
-- the first has this root
pub record IsHalfway (start : Store) (pages : ℕ → Image) (rows : Rows) (ops : List RowOp) (plan : List Planned) (next root : ℕ) (left : List Planned) : Type 0 where
  pub able : AreAllDoable rows ops
  pub versions : AllByRecursion (AreVersions rows.next) rows.tables
  pub next_is : rows.next ≡ next
  pub done : List Planned
  pub whole : done ++ left ≡ plan
  pub root_is : root ≡ 1 + length done
  pub owns : List (List ℕ)
  pub free : List ℕ
  pub before : List (List Pair)
  pub behind : List (List Pair)
  pub forest : Forest pages 1 owns free (before ++ behind)
  pub changed : AreLists (apply_all rows ops) done before
  pub same : AreLists rows left behind
  pub genid : next_genid pages ≡ rows.next
  pub changes : Changes start.pages pages (joined start.owns) (joined owns) start.free free
  pub lost : LosesNone start.pages pages (joined start.owns) (joined owns) start.free free
  pub freed : DoesTrees start.pages pages next ops 1 done
  pub filled : KeepsLeavesFilled start.pages pages (length plan)
  pub unnamed : LeavesUnnamed start (record { pages = pages; owns = owns; free = free }) plan ops
