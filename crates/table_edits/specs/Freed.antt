-- The trees of a schema one after the other: out of each all that goes is taken, with each leaf that becomes empty by this, and
-- then all that comes is put in. At last the meta page is told the next genid.
use Rattle.std.specs.Prelude.{◌≡◌, ℕ, suc, List, [], ◌∷◌}
use Rattle.page_store.specs.Image.{Image}
use Rattle.page_workspace.specs.Spare.{next_genid}
use Rattle.cdb_values.specs.declared.rows.RowOp.{RowOp}
use Rattle.cdb_values.specs.declared.tables.TableDef.{TableDef}
use Rattle.table_store.specs.Operations.{gone, born}
use Rattle.table_store.specs.Plans.{Planned, plan_from}
use Rattle.table_changes.specs.Freed.{TakesThenPuts}
use Rattle.table_edits.specs.Genids.{next_after, SetsGenid}

-- operations were done so on the trees of a plan, of which the first has this root
abbrev pub DoesTrees : (ℕ → Image) → (ℕ → Image) → ℕ → List RowOp → ℕ → List Planned → Type 0
DoesTrees old new next ops root [] = new ≡ old
DoesTrees old new next ops root (p ∷ ps) =
    (between : ℕ → Image) × TakesThenPuts old between root p.key (gone p.table ops) (born p.table next ops)
    × DoesTrees between new next ops (suc root) ps

-- and on all trees of a schema
pub record FreesLeaves (old new : ℕ → Image) (tables : List TableDef) (ops : List RowOp) : Type 0 where
  pub between : ℕ → Image
  pub done : DoesTrees old between (next_genid old) ops 1 (plan_from 0 tables)
  pub told : SetsGenid between new (next_after (next_genid old) ops)
