-- A log that has begun with tables, whose pages stand for its rows, and in which no identity comes twice; and inserts, by which
-- it grows.
use Rattle.std.specs.Prelude.{◌≡◌, ◌+◌, ◌≤◌, ◌∷◌, ◌++◌, List, [], length, Some}
use Rattle.std.specs.List.{AllByRecursion}
use Rattle.blkseq_table.specs.Known.{known_at, IsAbsent, AreApart}
use Rattle.blkseq_table.specs.OfLogs.{identities_of}
use Rattle.cdb_values.specs.declared.rows.RowOp.{RowOp}
use Rattle.cdb_values.specs.declared.rows.RowOp.TheVariants.{Insert, Update, Delete}
use Rattle.cdb_values.specs.declared.tables.TableDef.{TableDef}
use Rattle.key_code.specs.Codes.{IsText}
use Rattle.phys_log.specs.Logs.{pages_of}
use Rattle.phys_log.specs.declared.entries.CommitId.{CommitId}
use Rattle.phys_log.specs.declared.entries.Entry.{Entry}
use Rattle.phys_log.specs.declared.requests.CommitRequest.{CommitRequest}
use Rattle.phys_log.specs.declared.requests.Decision.{Decision}
use Rattle.phys_log.specs.declared.requests.Decision.TheVariants.{Repeat, Conflict, Duplicate, Commit}
use Rattle.log_replay.specs.Answers.{schema_of}
use Rattle.table_store.specs.Stored.{Stands}
use Rattle.log_rows.specs.History.{rows_of}

pub record IsBegun (tables : List TableDef) (entries : List Entry) : Type 0 where
  pub some : 1 ≤ length entries
  pub schema : schema_of entries ≡ Some tables
  pub stands : Stands (pages_of entries) tables (rows_of entries)
  pub apart : AreApart (identities_of entries)

-- the insert of a row whose texts are UTF-8
abbrev pub IsInsert : RowOp → Type 0
IsInsert (Insert table row) = AllByRecursion IsText row
IsInsert (Update table target old row) = ⊥
IsInsert (Delete table target old) = ⊥

-- a request asks inserts, of a transaction that began at a position of a log
pub record AsksInserts (entries : List Entry) (request : CommitRequest) : Type 0 where
  pub inserts : AllByRecursion IsInsert request.ops
  pub begun : 1 ≤ request.begin
  pub within : request.begin ≤ length entries

-- a log goes on with an entry that brings an identity
pub record GoesOnWith (tables : List TableDef) (entries : List Entry) (id : CommitId) (next : Entry) : Type 0 where
  pub begun : IsBegun tables (entries ++ next ∷ [])
  pub fresh : IsAbsent (identities_of entries) id
  pub known : identities_of (entries ++ next ∷ []) ≡ identities_of entries ++ known_at id (length entries + 1) ∷ []

-- so it does with the entry that is decided on
abbrev pub GoesOn : List TableDef → List Entry → CommitId → Decision → Type 0
GoesOn tables entries id (Repeat position) = Unit {0}
GoesOn tables entries id (Conflict position item) = Unit {0}
GoesOn tables entries id (Duplicate position table key) = Unit {0}
GoesOn tables entries id (Commit next) = GoesOnWith tables entries id next
