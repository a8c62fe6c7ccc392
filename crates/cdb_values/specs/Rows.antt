-- The rows of all tables, and what operations make of them.
--
-- A table is a list of row versions by rising genid. An insert adds a version with the next genid
-- at the end, a delete takes its target away, and an update does both. Genids are drawn from 1
-- upwards over all tables, and none is given twice. There are no pages, trees or keys here.
use Rattle.std.specs.Prelude.{ℕ, ◌+◌, ◌==◌, ◌++◌, ◌∷◌, [], List, Bool, false, ◌&&◌, not, if◌then◌else◌, unwrap_or, slice_get, slice_set, map, filter, Option, Some, None}
use Rattle.std.specs.List.{list_any}
use Rattle.cdb_values.specs.declared.rows.RowOp.{RowOp}
use Rattle.cdb_values.specs.declared.rows.RowOp.TheVariants.{Insert, Update, Delete}
use Rattle.cdb_values.specs.declared.rows.RowRef.TheVariants.{Base, Own}
use Rattle.cdb_values.specs.declared.rows.Version.{Version}
use Rattle.cdb_values.specs.declared.tables.TableDef.{TableDef}
use Rattle.cdb_values.specs.declared.values.Value.{Value}

-- the versions of each table, by the table's place, and the next genid, which is above all of them
pub record Rows : Type 0 where
  pub tables : List (List Version)
  pub next : ℕ

-- the tables as they begin: without rows
abbrev pub no_rows : List TableDef → Rows
no_rows tables = record { tables = map (λ _. []) tables; next = 1 }

-- the versions of a table, by its place
abbrev pub versions_of : Rows → ℕ → List Version
versions_of rows table = unwrap_or (slice_get rows.tables table) []

-- these versions without the one of a genid
abbrev pub without : ℕ → List Version → List Version
without genid versions = filter (λ v. not (v.genid == genid)) versions

-- whether a version with that genid is in the table now
abbrev pub is_live : Rows → ℕ → ℕ → Bool
is_live rows table genid = list_any (λ v. v.genid == genid) (versions_of rows table)

-- the rows with that version taken away
abbrev pub taken : Rows → ℕ → ℕ → Rows
taken rows table genid = record { tables = slice_set rows.tables table (without genid (versions_of rows table)); next = rows.next }

-- a row as it is written under a genid
abbrev pub version : ℕ → List Value → Version
version genid row = record { genid = genid; row = row }

-- the rows with a row written at the end of its table, under the next genid
abbrev pub added : Rows → ℕ → List Value → Rows
added rows table row = record { tables = slice_set rows.tables table (versions_of rows table ++ version rows.next row ∷ []); next = rows.next + 1 }

-- what an operation on a live version, or an insert, makes of the rows
abbrev pub apply : Rows → RowOp → Rows
apply rows (Insert table row) = added rows table row
apply rows (Update table (Base genid) old row) = added (taken rows table genid) table row
apply rows (Update table (Own write) old row) = rows
apply rows (Delete table (Base genid) old) = taken rows table genid
apply rows (Delete table (Own write) old) = rows

-- the operations one after the other
abbrev pub apply_all : Rows → List RowOp → Rows
apply_all rows [] = rows
apply_all rows (op ∷ ops) = apply_all (apply rows op) ops

-- whether an operation takes the version of that genid away from that table
abbrev pub takes : ℕ → ℕ → RowOp → Bool
takes table genid (Insert place row) = false
takes table genid (Update place (Base target) old row) = (place == table) && (target == genid)
takes table genid (Update place (Own write) old row) = false
takes table genid (Delete place (Base target) old) = (place == table) && (target == genid)
takes table genid (Delete place (Own write) old) = false

-- the rows that operations wrote to a table, in order
abbrev pub written : ℕ → List RowOp → List (List Value)
written table [] = []
written table (Insert place row ∷ ops) = if place == table then row ∷ written table ops else written table ops
written table (Update place target old row ∷ ops) = if place == table then row ∷ written table ops else written table ops
written table (Delete place target old ∷ ops) = written table ops

-- the rows of a table as a transaction sees them: those of the base that its operations did not
-- take away, by rising genid, and then its own in the order in which they were written
abbrev pub view : Rows → List RowOp → ℕ → List (List Value)
view rows ops table = map (λ v. v.row) (filter (λ v. not (list_any (takes table v.genid) ops)) (versions_of rows table)) ++ written table ops

-- the row that an operation writes to a table, if it writes one there
abbrev pub row_written : ℕ → RowOp → Option (List Value)
row_written table (Insert place row) = if place == table then Some row else None
row_written table (Update place target old row) = if place == table then Some row else None
row_written table (Delete place target old) = None
