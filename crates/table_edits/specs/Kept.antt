-- What becomes of the pages of a store where operations are done on it: which pages its trees have, and which are free.
--
-- No page is lost: what a tree had, what was free, and what was taken from the end is of a tree or free afterwards. And a
-- tree of a table that no operation names has the pages that it had, each as it was.
use Rattle.std.specs.Prelude.{◌≡◌, ◌⊎◌, ℕ, ◌≤◌, ◌<◌, List, false, length, Some}
use Rattle.std.specs.List.{slice_get, list_any}
use Rattle.page_store.specs.Image.{Image}
use Rattle.page_workspace.specs.Spare.{IsIn, count_of}
use Rattle.cdb_values.specs.Rows.{Rows, apply_all}
use Rattle.cdb_values.specs.declared.rows.RowOp.{RowOp}
use Rattle.cdb_values.specs.declared.tables.TableDef.{TableDef}
use Rattle.table_store.specs.Forests.{joined}
use Rattle.table_store.specs.Plans.{Planned, plan_from}
use Rattle.table_store.specs.Stored.{Stands}
use Rattle.table_edits.specs.Answers.{AreWithin}
use Rattle.table_edits.specs.Filled.{KeepsLeavesFilled}
use Rattle.table_edits.specs.Fits.{names}

-- pages, with those of each tree and the free ones
pub record Store : Type 0 where
  pub pages : ℕ → Image
  pub owns : List (List ℕ)
  pub free : List ℕ

abbrev pub store_of : (pages : ℕ → Image) (tables : List TableDef) (rows : Rows) → Stands pages tables rows → Store
store_of pages tables rows stands = record { pages = pages; owns = stands.owns; free = stands.free }

-- a tree of a table that no operation names has the pages that it had, each as it was
abbrev pub LeavesUnnamed : Store → Store → List Planned → List RowOp → Type 0
LeavesUnnamed old new plan ops =
    (at : ℕ) (p : Planned) (own : List ℕ) → slice_get plan at ≡ Some p → list_any (names p.table) ops ≡ false → slice_get old.owns at ≡ Some own
    → (slice_get new.owns at ≡ Some own) × ((n : ℕ) → IsIn n own → new.pages n ≡ old.pages n)

-- each page below the number of pages is of a tree, or free, or the meta page
abbrev pub IsNoneLost : Store → Type 0
IsNoneLost store = (n : ℕ) → n < count_of store.pages → (n ≡ 0) ⊎ IsIn n (joined store.owns) ⊎ IsIn n store.free

-- what operations leave of the pages
pub record KeepsPages (old new : Store) (plan : List Planned) (ops : List RowOp) : Type 0 where
  pub tree : (n : ℕ) → IsIn n (joined old.owns) → IsIn n (joined new.owns) ⊎ IsIn n new.free
  pub unused : (n : ℕ) → IsIn n old.free → IsIn n (joined new.owns) ⊎ IsIn n new.free
  pub taken : (n : ℕ) → count_of old.pages ≤ n → n < count_of new.pages → IsIn n (joined new.owns) ⊎ IsIn n new.free
  pub whole : IsNoneLost old → IsNoneLost new
  pub others : (n : ℕ) → n < count_of old.pages → (n ≡ 0 → ⊥) → (IsIn n (joined old.owns) → ⊥) → (IsIn n old.free → ⊥) → new.pages n ≡ old.pages n
  pub unnamed : LeavesUnnamed old new plan ops

-- pages that stand for the state after operations, with what was kept; and no leaf but a root is empty that was not before
pub record Leaves (old new : ℕ → Image) (tables : List TableDef) (rows : Rows) (ops : List RowOp) (stands : Stands old tables rows) : Type 0 where
  pub after : Stands new tables (apply_all rows ops)
  pub within : AreWithin old new
  pub filled : KeepsLeavesFilled old new (length (plan_from 0 tables))
  pub kept : KeepsPages (store_of old tables rows stands) (store_of new tables (apply_all rows ops) after) (plan_from 0 tables) ops
