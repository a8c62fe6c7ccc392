-- What is decided on a transaction at its commit is `decision` of `session_turns`. Here: the tables of changes, and the places of keys.
use Rattle.std.specs.Prelude.{◌≡◌, ℕ, List, Some}
use Rattle.cdb_values.specs.declared.rows.Change.{Change}
use Rattle.cdb_values.specs.declared.rows.Change.TheVariants.{Insert, Update, Delete}
use Rattle.cdb_values.specs.declared.tables.TableDef.{TableDef}
use Rattle.report_laws.specs.Outcome.{name_of_table}
use Rattle.table_edits.specs.Broken.{KeyPlace}

-- the table of a change, by its place
abbrev pub table_of : Change → ℕ
table_of (Insert table genid row) = table
table_of (Update table genid old new row) = table
table_of (Delete table genid old) = table

-- a change of a table that has a name
abbrev pub HasName : List TableDef → Change → Type 0
HasName tables change = (name : List ℕ) × (name_of_table tables (table_of change) ≡ Some name)

-- a key by its place
abbrev pub key_place : ℕ → ℕ → KeyPlace
key_place table key = record { table = table; key = key }
