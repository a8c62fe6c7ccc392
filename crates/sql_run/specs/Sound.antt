-- Sound rows and operations, and that what a text of SQL leaves is sound.
--
-- Each row of a table fits it, and each version's genid is below the next one. An operation writes such rows, on a table
-- that is there, and takes away only such versions. It names them by their genids: net operations name no own write.
--
-- Tables have to have distinct names of columns: a name means the first column that has it, and the types of a text are
-- judged by that one.
use Rattle.std.specs.Prelude.{◌≡◌, ℕ, ◌<◌, ◌∷◌, [], List, false, map, slice_get, Some}
use Rattle.std.specs.List.{AllByRecursion}
use Rattle.cdb_values.specs.Good.{FitsTable}
use Rattle.cdb_values.specs.Tables.{has_twice}
use Rattle.cdb_values.specs.declared.rows.RowOp.{RowOp}
use Rattle.cdb_values.specs.declared.rows.RowOp.TheVariants.{Insert, Update, Delete}
use Rattle.cdb_values.specs.declared.rows.RowRef.{RowRef}
use Rattle.cdb_values.specs.declared.rows.RowRef.TheVariants.{Base, Own}
use Rattle.cdb_values.specs.declared.rows.Version.{Version}
use Rattle.cdb_values.specs.declared.tables.TableDef.{TableDef}
use Rattle.query_laws.specs.Alone.{sql_language}

-- a version of a genid below the next one
abbrev pub IsBelow : ℕ → RowRef → Type 0
IsBelow next (Base genid) = genid < next
IsBelow next (Own write) = ⊥

abbrev pub IsSoundOp : List TableDef → ℕ → RowOp → Type 0
IsSoundOp tables next (Insert place row) = (table : TableDef) × (slice_get tables place ≡ Some table) × FitsTable table row
IsSoundOp tables next (Update place target old row) = (table : TableDef) × (slice_get tables place ≡ Some table) × FitsTable table row × IsBelow next target
IsSoundOp tables next (Delete place target old) = (table : TableDef) × (slice_get tables place ≡ Some table) × IsBelow next target

abbrev pub IsSoundVersion : TableDef → ℕ → Version → Type 0
IsSoundVersion table next v = FitsTable table v.row × (v.genid < next)

-- the versions of each table, by its place
abbrev pub AreSound : List TableDef → ℕ → List (List Version) → Type 0
AreSound [] next [] = Unit {0}
AreSound [] next (_ ∷ _) = ⊥
AreSound (_ ∷ _) next [] = ⊥
AreSound (table ∷ tables) next (versions ∷ others) = AllByRecursion (IsSoundVersion table next) versions × AreSound tables next others

-- a table no two of whose columns have one name
abbrev pub HasDistinctColumns : TableDef → Type 0
HasDistinctColumns table = has_twice (map (λ column. column.name) table.columns) ≡ false

-- over sound rows of such tables, and behind sound operations, each text leaves sound operations
abbrev pub LeavesSoundOps : Type 0
LeavesSoundOps = (tables : List TableDef) (versions : List (List Version)) (done : List RowOp) (text : List ℕ) (next : ℕ)
    → AllByRecursion HasDistinctColumns tables → AreSound tables next versions → AllByRecursion (IsSoundOp tables next) done
    → AllByRecursion (IsSoundOp tables next) (sql_language.answer tables versions done text).ops
