-- The rows that the entries of a log make, and what each entry takes away.
--
-- A setup makes the tables of its schema, without rows; every other entry makes its changes. So of a log with the entries
--
--     1   setup    the table t
--     2   commit   insert the row (1, 10) of t as the version 1
--     3   commit   update the version 1 of t to (1, 11), as the version 2
--
-- the rows at position 2 have the version 1, those at position 3 the version 2, and the third entry takes away the
-- version 1 of t. The pages of a log stand for its rows where they do so at each position.
--
-- A run may begin in a log that has entries already. What these say that they change is not looked at then: the rows
-- there are given, and only the entries behind them make their changes. Over the ground at position 2 with the row
-- (5, 50) as the version 9, the third entry of this log adds the version 2 beside the version 9.
use Rattle.std.specs.Prelude.{◌≡◌, ℕ, ◌≤◌, List, [], ◌∷◌, map, length, take, drop, unwrap_or}
use Rattle.std.specs.List.{AllByRecursion}
use Rattle.cdb_values.specs.Changes.{genids_taken}
use Rattle.cdb_values.specs.Rows.{Rows, no_rows}
use Rattle.cdb_values.specs.declared.items.GenidItem.{GenidItem}
use Rattle.cdb_values.specs.declared.tables.TableDef.{TableDef}
use Rattle.phys_log.specs.Logs.{page_at}
use Rattle.phys_log.specs.declared.entries.Entry.{Entry}
use Rattle.phys_log.specs.declared.entries.Entry.TheVariants.{Setup, Commit}
use Rattle.log_replay.specs.Answers.{schema_of}
use Rattle.table_store.specs.Stored.{Stands}
use Rattle.log_rows.specs.Applied.{apply_changes}

-- the rows after an entry
abbrev pub rows_after : Rows → Entry → Rows
rows_after rows (Setup generation schema records) = no_rows schema
rows_after rows (Commit generation id begin level changes records) = apply_changes rows changes

-- the rows after entries in order
abbrev pub rows_from : Rows → List Entry → Rows
rows_from rows [] = rows
rows_from rows (e ∷ es) = rows_from (rows_after rows e) es

-- where a run begins in a log, and the rows there
pub record Ground : Type 0 where
  pub position : ℕ
  pub rows : Rows

-- a run that begins a log
abbrev pub no_ground : Ground
no_ground = record { position = 0; rows = no_rows [] }

-- the rows of a log over a ground: the ground's, with the changes of the entries after its position
abbrev pub rows_over : Ground → List Entry → Rows
rows_over footing entries = rows_from footing.rows (drop footing.position entries)

-- the rows at a position of a log over a ground
abbrev pub rows_over_at : Ground → List Entry → ℕ → Rows
rows_over_at footing entries position = rows_over footing (take position entries)

-- the rows of a log
abbrev pub rows_of : List Entry → Rows
rows_of entries = rows_over no_ground entries

-- the rows at a position of a log
abbrev pub rows_at : List Entry → ℕ → Rows
rows_at entries position = rows_over_at no_ground entries position

-- the versions that an entry takes away, and those that each of some entries takes away
abbrev pub takes_of : Entry → List GenidItem
takes_of (Setup generation schema records) = []
takes_of (Commit generation id begin level changes records) = genids_taken changes

abbrev pub takes_in : List Entry → List (List GenidItem)
takes_in entries = map takes_of entries

-- the tables of a log: those of its first entry, none where that is no setup
abbrev pub tables_of : List Entry → List TableDef
tables_of entries = unwrap_or (schema_of entries) []

-- a position at which rows are known: at least 1, and at least the base, where a run begins
abbrev pub IsFrom : ℕ → ℕ → Type 0
IsFrom base position = (1 ≤ position) × (base ≤ position)

-- the pages stand for the rows over a ground, at each position from it on
abbrev pub StandsOver : Ground → List TableDef → List Entry → Type 0
StandsOver footing tables entries =
    (k : ℕ) → IsFrom footing.position k → k ≤ length entries → Stands (page_at entries k) tables (rows_over_at footing entries k)

-- the pages stand for the rows at each position
abbrev pub StandsThroughout : List TableDef → List Entry → Type 0
StandsThroughout tables entries = StandsOver no_ground tables entries

-- an entry is that of a transaction
abbrev pub IsCommit : Entry → Type 0
IsCommit (Setup generation schema records) = ⊥
IsCommit (Commit generation id begin level changes records) = Unit {0}

-- a version of a table, by its genid, is not among these
abbrev pub IsUntaken : ℕ → ℕ → List GenidItem → Type 0
IsUntaken table genid items = AllByRecursion (λ i. i.table ≡ table → i.genid ≡ genid → ⊥) items
