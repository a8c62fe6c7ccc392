-- What a request has to be for a log, so that something can be decided of it.
--
-- It began at a position of the log, no earlier than the ground over which the log's rows are known, and the pages of the log
-- stand for its rows. What it takes away was there at its begin position, each version once, and is named among what it used.
-- What it writes fits the cells of trees, and its texts are UTF-8.
use Rattle.std.specs.Prelude.{◌≡◌, ℕ, ◌≤◌, List, [], length, Some}
use Rattle.std.specs.List.{AllByRecursion}
use Rattle.cdb_values.specs.Changes.{taken_by}
use Rattle.cdb_values.specs.Rows.{versions_of}
use Rattle.cdb_values.specs.declared.rows.RowOp.{RowOp}
use Rattle.cdb_values.specs.declared.rows.RowOp.TheVariants.{Insert, Update, Delete}
use Rattle.cdb_values.specs.declared.values.Value.{Value}
use Rattle.key_code.specs.Codes.{IsText}
use Rattle.phys_log.specs.Logs.{pages_of}
use Rattle.phys_log.specs.declared.entries.Entry.{Entry}
use Rattle.phys_log.specs.declared.requests.CommitRequest.{CommitRequest}
use Rattle.log_replay.specs.Answers.{schema_of}
use Rattle.table_store.specs.Listings.{IsAmong}
use Rattle.table_store.specs.Operations.{gone, NoTwice}
use Rattle.table_store.specs.Stored.{Stands}
use Rattle.table_edits.specs.Fits.{WritesFitting}
use Rattle.log_rows.specs.History.{Ground, rows_over, rows_over_at, tables_of, IsFrom}

-- each value that an operation writes is one of these
abbrev pub Writes : (Value → Type 0) → RowOp → Type 0
Writes Is (Insert place row) = AllByRecursion Is row
Writes Is (Update place target old row) = AllByRecursion Is row
Writes Is (Delete place target old) = Unit {0}

pub record IsAsked (footing : Ground) (request : CommitRequest) (entries : List Entry) : Type 0 where
  pub some : request.ops ≡ [] → ⊥
  pub begun : IsFrom footing.position request.begin
  pub within : request.begin ≤ length entries
  pub schema : schema_of entries ≡ Some (tables_of entries)
  pub stands : Stands (pages_of entries) (tables_of entries) (rows_over footing entries)
  pub there : (table : ℕ) → AllByRecursion (λ v. IsAmong v (versions_of (rows_over_at footing entries request.begin) table)) (gone table request.ops)
  pub once : (table : ℕ) → NoTwice (gone table request.ops)
  pub named : AllByRecursion (λ i. IsAmong i request.genids) (taken_by request.ops)
  pub fits : AllByRecursion (WritesFitting (tables_of entries)) request.ops
  pub texts : AllByRecursion (Writes IsText) request.ops
