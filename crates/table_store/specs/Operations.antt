-- What operations take from a table and write to it, and what becomes of the list of one tree.
--
-- Each tree is changed for itself. First the pairs of all versions that go are taken out, then the pairs of all those
-- that come are put in, in order; no state between two operations is ever looked at. So two updates may exchange the
-- values of a unique key, and a key that an operation frees may be taken by any other. Let a unique key have the value
-- 1 of the version 3 and the value 2 of the version 5, and let two updates exchange them, from the next genid 6 on:
--
--     before                              1 -> 3, 2 -> 5
--     gone     3 and 5                    nothing
--     born     6 with 2, 7 with 1         1 -> 7, 2 -> 6
use Rattle.std.specs.Prelude.{◌≡◌, ℕ, ◌+◌, ◌^◌, ◌<◌, ◌==◌, Bool, false, if◌then◌else◌, List, [], ◌∷◌, Option, None, Some}
use Rattle.std.specs.List.{AllByRecursion}
use Rattle.std.specs.Option.{is_some}
use Rattle.btree_index.specs.Pairs.{value_at, with_pair, without_key}
use Rattle.cdb_values.specs.Good.{breaks}
use Rattle.cdb_values.specs.Rows.{Rows, version, versions_of, apply_all}
use Rattle.cdb_values.specs.declared.rows.RowOp.{RowOp}
use Rattle.cdb_values.specs.declared.rows.RowOp.TheVariants.{Insert, Update, Delete}
use Rattle.cdb_values.specs.declared.rows.RowRef.TheVariants.{Base, Own}
use Rattle.cdb_values.specs.declared.rows.Version.{Version}
use Rattle.cdb_values.specs.declared.tables.KeyDef.{KeyDef}
use Rattle.key_code.specs.Codes.{IsRowValue}
use Rattle.table_store.specs.Forests.{Pair}
use Rattle.table_store.specs.Listings.{IsAmong, pair_of_version}

-- the versions that operations take away from a table, with the old rows that they tell
abbrev pub gone : ℕ → List RowOp → List Version
gone table [] = []
gone table (Insert place row ∷ ops) = gone table ops
gone table (Update place (Base genid) old row ∷ ops) =
    if place == table then version genid old ∷ gone table ops else gone table ops
gone table (Update place (Own write) old row ∷ ops) = gone table ops
gone table (Delete place (Base genid) old ∷ ops) =
    if place == table then version genid old ∷ gone table ops else gone table ops
gone table (Delete place (Own write) old ∷ ops) = gone table ops

-- the versions that operations write to a table, from a next genid on
abbrev pub born : ℕ → ℕ → List RowOp → List Version
born table next [] = []
born table next (Insert place row ∷ ops) =
    if place == table then version next row ∷ born table (next + 1) ops else born table (next + 1) ops
born table next (Update place (Base genid) old row ∷ ops) =
    if place == table then version next row ∷ born table (next + 1) ops else born table (next + 1) ops
born table next (Update place (Own write) old row ∷ ops) = born table next ops
born table next (Delete place target old ∷ ops) = born table next ops

-- the list of a tree without what it has of versions
abbrev pub removed : Option KeyDef → List Version → List Pair → List Pair
removed key [] list = list
removed key (v ∷ vs) list = removed key vs (without_key (pair_of_version key v).0 list)

-- the list of a tree with what it has of versions, put one after the other; none where a key is there already
abbrev pub put_all : Option KeyDef → List Version → List Pair → Option (List Pair)
put_all key [] list = Some list
put_all key (v ∷ vs) list =
    if is_some (value_at (pair_of_version key v).0 list)
    then None
    else put_all key vs (with_pair (pair_of_version key v).0 (pair_of_version key v).1 list)

-- no genid twice
abbrev pub NoTwice : List Version → Type 0
NoTwice [] = Unit {0}
NoTwice (v ∷ vs) = AllByRecursion (λ w. w.genid ≡ v.genid → ⊥) vs × NoTwice vs

-- whether versions break the key of a tree; the rows' tree has none to break
abbrev pub breaks_in : Option KeyDef → List Version → Bool
breaks_in None versions = false
breaks_in (Some key) versions = breaks versions key

-- operations that can be done on a table: what they take away is there with the row that they tell, and is taken once;
-- what they write can be read from its code; and the next genid after them is one of 64 bits
pub record AreDoable (rows : Rows) (table : ℕ) (ops : List RowOp) : Type 0 where
  pub there : AllByRecursion (λ v. IsAmong v (versions_of rows table)) (gone table ops)
  pub once : NoTwice (gone table ops)
  pub coded : AllByRecursion (λ v. AllByRecursion IsRowValue v.row) (born table rows.next ops)
  pub next : (apply_all rows ops).next < 2 ^ 64
