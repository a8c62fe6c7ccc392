-- Live operations: each takes away a version that is there, with the row that it tells, and none is taken twice.
--
-- These are what texts of SQL leave behind: a statement sees each version once, and none that its transaction has
-- taken away already; and what it does to a row of its own transaction joins the operation that wrote this row. Let
-- a table have the versions 3 and 5, and let a transaction update both. It then has two operations, with the targets
-- 3 and 5. A DELETE of both rows behind that leaves two operations with the same targets, and no third one.
--
-- No genid may stand twice in a table: else one statement would take both.
use Rattle.std.specs.Prelude.{◌≡◌, ℕ, List, [], ◌∷◌, ◌++◌, None}
use Rattle.std.specs.List.{AllByRecursion}
use Rattle.cdb_values.specs.Changes.{taken_by}
use Rattle.cdb_values.specs.Rows.{Rows, apply_all}
use Rattle.cdb_values.specs.declared.items.GenidItem.{GenidItem}
use Rattle.cdb_values.specs.declared.rows.RowOp.{RowOp}
use Rattle.cdb_values.specs.declared.rows.Version.{Version}
use Rattle.cdb_values.specs.declared.tables.TableDef.{TableDef}
use Rattle.query_laws.specs.Alone.{sql_language}
use Rattle.session_language.specs.Language.{alone_from}
use Rattle.session_language.specs.Touched.{first_touched}
use Rattle.sql_answer.specs.Combinations.{of_table}
use Rattle.table_store.specs.Listings.{IsAmong}
use Rattle.table_store.specs.Operations.{gone, NoTwice}
use Rattle.table_store.specs.States.{AreVersions}

-- no genid twice in a table; here are the versions of each table, by its place
abbrev pub AreDistinct : List (List Version) → Type 0
AreDistinct versions = AllByRecursion NoTwice versions

-- of each table, operations take away versions that are there, with the rows that they tell, and none twice
pub record AreLive (versions : List (List Version)) (ops : List RowOp) : Type 0 where
  pub there : (table : ℕ) → AllByRecursion (λ v. IsAmong v (of_table versions table)) (gone table ops)
  pub once : (table : ℕ) → NoTwice (gone table ops)

-- over distinct versions, and behind live operations, each text leaves live operations
abbrev pub TextLeavesLive : Type 0
TextLeavesLive = (tables : List TableDef) (versions : List (List Version)) (done : List RowOp) (text : List ℕ)
    → AreDistinct versions → AreLive versions done → AreLive versions (sql_language.answer tables versions done text).ops

-- and so do texts one after the other
abbrev pub TextsLeaveLive : Type 0
TextsLeaveLive = (tables : List TableDef) (versions : List (List Version)) (done : List RowOp) (texts : List (List ℕ))
    → AreDistinct versions → AreLive versions done → AreLive versions (alone_from sql_language tables versions done texts).ops

-- so a transaction that runs alone has live operations
abbrev pub TransactionLeavesLive : Type 0
TransactionLeavesLive = (tables : List TableDef) (versions : List (List Version)) (texts : List (List ℕ))
    → AreDistinct versions → AreLive versions (alone_from sql_language tables versions [] texts).ops

-- genids that rise are distinct
abbrev pub RisingAreDistinct : Type 0
RisingAreDistinct = (next : ℕ) (versions : List (List Version)) → AllByRecursion (AreVersions next) versions → AreDistinct versions

-- operations take away none of the versions that these take away
abbrev pub TakeOthers : List RowOp → List RowOp → Type 0
TakeOthers ops others = first_touched (taken_by others) (taken_by ops) ≡ None

-- where they take away nothing that a transaction uses, what its operations take away being used, too
abbrev pub UsedAreOthers : Type 0
UsedAreOthers = (ops others : List RowOp) (uses : List GenidItem) → first_touched (taken_by others) (uses ++ taken_by ops) ≡ None → TakeOthers ops others

-- live operations stay live behind such operations
abbrev pub LiveStayLive : Type 0
LiveStayLive = (rows : Rows) (ops others : List RowOp) → AreLive rows.tables ops → TakeOthers ops others → AreLive (apply_all rows others).tables ops

-- the rows behind the operations of entries, one after the other
abbrev pub rows_behind : Rows → List (List RowOp) → Rows
rows_behind rows [] = rows
rows_behind rows (entry ∷ entries) = rows_behind (apply_all rows entry) entries

-- and behind entries with such operations
abbrev pub LiveStayThrough : Type 0
LiveStayThrough = (rows : Rows) (ops : List RowOp) (entries : List (List RowOp)) → AreLive rows.tables ops → AllByRecursion (TakeOthers ops) entries
    → AreLive (rows_behind rows entries).tables ops
