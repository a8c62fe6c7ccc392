-- What the trees of pages that stand for a state list: the tree at each place of the plan has the versions of its table.
use Rattle.std.proofs.Common.{◌≡◌, ℕ, zero, suc, ◌+◌, ◌^◌, ◌<◌, List, [], ◌∷◌, ◌++◌, take, length, Option, Some, None, ap, ◌∙◌, subst, arith, length-append}
use Rattle.std.specs.List.{AllByRecursion, slice_get}
use Rattle.page_store.specs.Image.{Image}
use Rattle.page_workspace.specs.Spare.{IsIn}
use Rattle.btree_index.specs.Trees.{TreeList}
use Rattle.cdb_values.specs.Rows.{Rows, versions_of}
use Rattle.cdb_values.specs.declared.rows.Version.{Version}
use Rattle.cdb_values.specs.declared.tables.TableDef.{TableDef}
use Rattle.cdb_values.specs.declared.tables.KeyDef.{KeyDef}
use Rattle.key_code.specs.Codes.{IsRowValue}
use Rattle.table_store.specs.Forests.{Pair, IsTree}
use Rattle.table_store.specs.Plans.{Planned, key_trees, plan_from}
use Rattle.table_store.specs.Listings.{Lists}
use Rattle.table_store.specs.Readings.{IsReadable}
use Rattle.table_store.specs.States.{Rise, AreVersions}
use Rattle.table_store.specs.Stored.{Stands}
use Rattle.page_rows.specs.Picks.{Ascend}
use Rattle.table_store.proofs.ForestLaws.{tree_at, joined_own}
use Rattle.table_store.proofs.KeptLaws.{all_or}
use Rattle.table_store.proofs.ReadLaws.{IsPlanned, planned_at, get_behind}

-- a tree at a root, and the versions that it lists
pub record IsTreeOf (pages : ℕ → Image) (root : ℕ) (key : Option KeyDef) (versions : List Version) : Type 0 where
  pub list : List Pair
  pub tree : TreeList pages root list
  pub lists : Lists key versions list

pub tree_of : (pages : ℕ → Image) (tables : List TableDef) (rows : Rows) (at root : ℕ) (p : Planned) → Stands pages tables rows
    → slice_get (plan_from 0 tables) at ≡ Some p → root ≡ 1 + at → IsTreeOf pages root p.key (versions_of rows p.table)
tree_of pages tables rows at root p s e r =
    let place : IsPlanned rows s.owns s.lists at p = planned_at pages 1 rows (plan_from 0 tables) s.owns s.lists at p e s.forest.trees s.listed in
    let tree : IsTree pages root place.own place.list =
    tree_at pages 1 at root s.owns s.lists place.own place.list place.own_is place.list_is r s.forest.trees in
    record {
      list = place.list;
      tree = record {
        height = tree.height;
        cells = tree.cells;
        holds = tree.holds;
        off_meta = λ i. s.forest.off_meta (joined_own 0 at s.owns place.own place.own_is (subst (λ (l : List ℕ). IsIn 0 l) tree.own_is i));
        pairs = tree.pairs;
      };
      lists = place.listed;
    }

-- versions that can be read: by rising genids of 64 bits, and from their codes
pub record AreReadable (versions : List Version) : Type 0 where
  pub ascend : Ascend versions
  pub each : AllByRecursion IsReadable versions

readable : (versions : List Version) (next : ℕ) → next < 2 ^ 64 → Rise versions next → AllByRecursion (λ v. AllByRecursion IsRowValue v.row) versions → AllByRecursion IsReadable versions
readable [] next small h c = tt
readable (v ∷ vs) next small h c =
    (record { genid = (let below : v.genid < next = h.0 in omega (arith, below, small)); row = c.0 }, readable vs next small h.2 c.1)

ascending : (versions : List Version) (next : ℕ) → Rise versions next → Ascend versions
ascending [] next h = tt
ascending (v ∷ vs) next h = (h.1, ascending vs next h.2)

pub versions_readable : (pages : ℕ → Image) (tables : List TableDef) (rows : Rows) (table : ℕ) → Stands pages tables rows → AreReadable (versions_of rows table)
versions_readable pages tables rows table s =
    let are : AreVersions rows.next (versions_of rows table) =
    all_or (AreVersions rows.next) rows.tables table (record { rise = tt; coded = tt }) s.state.versions in
    record {
      ascend = ascending (versions_of rows table) rows.next are.rise;
      each = readable (versions_of rows table) rows.next s.state.next are.rise are.coded;
    }

pub no_table : (n : ℕ) → n < 0 → ⊥
no_table n h = omega arith

-- the place of the rows' tree of a table
pub rows_planned : (place t at : ℕ) (tables : List TableDef) → t < length tables → at ≡ place + t
    → slice_get (plan_from place tables) (length (plan_from place (take t tables))) ≡ Some (record { table = at; key = None })
rows_planned place t at [] h e = absurd (no_table t h)
rows_planned place zero at (table ∷ tables) h e =
    let same : place ≡ at = omega arith in ap (λ (n : ℕ). Some (record { table = n; key = None })) same
rows_planned place (suc t) at (table ∷ tables) h e =
    let next : at ≡ suc place + t = omega arith in
    get_behind (key_trees place table.keys) (plan_from (suc place) tables)
    (length (key_trees place table.keys ++ plan_from (suc place) (take t tables))) (length (plan_from (suc place) (take t tables)))
    (length-append (key_trees place table.keys) (plan_from (suc place) (take t tables)))
    ∙ rows_planned (suc place) t at tables (omega arith) next
