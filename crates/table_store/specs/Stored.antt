-- Pages that stand for a state of a schema: the trees of the schema's plan stand from page 1 on, each of them lists the
-- versions of its table, and the meta page has the next genid.
--
-- That the keys are kept is not said, and follows: a tree has each key once, so no two versions have the same values at
-- a unique key. That rows fit their tables does not follow, and pages may stand for a state whose rows do not.
use Rattle.std.specs.Prelude.{◌≡◌, ℕ, List}
use Rattle.page_store.specs.Image.{Image}
use Rattle.page_workspace.specs.Spare.{next_genid}
use Rattle.cdb_values.specs.Rows.{Rows}
use Rattle.cdb_values.specs.declared.tables.TableDef.{TableDef}
use Rattle.table_store.specs.Forests.{Pair, Forest}
use Rattle.table_store.specs.Plans.{plan_from}
use Rattle.table_store.specs.Listings.{AreLists}
use Rattle.table_store.specs.States.{IsState}

pub record Stands (pages : ℕ → Image) (tables : List TableDef) (rows : Rows) : Type 0 where
  pub owns : List (List ℕ)
  pub free : List ℕ
  pub lists : List (List Pair)
  pub forest : Forest pages 1 owns free lists
  pub listed : AreLists rows (plan_from 0 tables) lists
  pub genid : next_genid pages ≡ rows.next
  pub state : IsState tables rows
