-- A request as a session sends it and as the block processor has it, over a log.
--
-- The block processor decides over a ground: the rows at a position of the log.
use Rattle.std.specs.Prelude.{ℕ, ◌≡◌, ◌≤◌, List, [], ◌∷◌, ◌++◌, map, length}
use Rattle.std.specs.List.{AllByRecursion}
use Rattle.cdb_values.specs.Changes.{taken_by}
use Rattle.cdb_values.specs.Rows.{Rows, versions_of}
use Rattle.cdb_values.specs.declared.rows.Change.{Change}
use Rattle.cdb_values.specs.declared.tables.TableDef.{TableDef}
use Rattle.key_code.specs.Codes.{IsText}
use Rattle.table_edits.specs.Fits.{WritesFitting}
use Rattle.table_store.specs.Listings.{IsAmong}
use Rattle.table_store.specs.Operations.{gone, NoTwice}
use Rattle.block_processor.specs.Asked.{Writes}
use Rattle.phys_log.specs.declared.entries.Entry.{Entry as PlainEntry}
use Rattle.phys_log.specs.declared.requests.CommitRequest.{CommitRequest}
use Rattle.log_rows.specs.History.{Ground, rows_over, rows_after, tables_of}
use Rattle.block_processor.specs.Conflicts.{ranges_of}
use Rattle.session_language.specs.Touched.{TheVersion, TheRange, first_used}
use Rattle.core_lists.specs.Fronts.{Front}
use Rattle.cluster_requests.specs.KeptEntries.{KeptEntry, plain, state_of, rows_behind}
use Rattle.cluster_requests.specs.Requests.{Sent}
use Rattle.cluster_events.specs.Settings.{Setting}

-- the log as it is stored
abbrev pub stored_entries : List KeptEntry → List PlainEntry
stored_entries l = map plain l

-- a request of the block processor is the one that a session sent: over a footing, which is a ground whose rows are those of the log
pub record IsRequestOf (G : Setting) (log : List KeptEntry) (footing : Ground) (sent : Sent) (request : CommitRequest) : Type 0 where
  pub tables : tables_of (stored_entries log) ≡ G.tables
  pub rows : rows_over footing (stored_entries log) ≡ state_of log
  pub its_id : request.id ≡ sent.id
  pub its_begin : request.begin ≡ sent.begin
  pub its_level : request.level ≡ sent.level
  pub its_ops : request.ops ≡ sent.ops
  -- a request is without repeats
  pub its_used : (changes : List Change) → first_used G.tables changes (map TheVersion request.genids ++ map TheRange (ranges_of request)) ≡ first_used G.tables changes sent.used
  pub some : sent.ops ≡ [] → ⊥
  pub within : sent.begin ≤ length log
  pub behind : footing.position ≤ length log

-- the entries behind a position are kept with what they make of the rows before them
abbrev pub AreMadeBehind : ℕ → List KeptEntry → Type 0
AreMadeBehind b l = (xs : List KeptEntry) (e : KeptEntry) → Front (xs ++ e ∷ []) l → b ≤ length xs → rows_behind e ≡ rows_after (state_of xs) (plain e)

-- the ground of a log at a position
abbrev pub ground_at : Rows → ℕ → Ground
ground_at rows position = record { position = position; rows = rows }

-- what a session computed over the rows at its begin: what it takes away is there, each version once, and is named among what
-- it used; what it writes fits the cells of trees, and its texts are UTF-8
pub record FitsRows (tables : List TableDef) (rows : Rows) (request : CommitRequest) : Type 0 where
  pub there : (table : ℕ) → AllByRecursion (λ v. IsAmong v (versions_of rows table)) (gone table request.ops)
  pub once : (table : ℕ) → NoTwice (gone table request.ops)
  pub named : AllByRecursion (λ i. IsAmong i request.genids) (taken_by request.ops)
  pub fits : AllByRecursion (WritesFitting tables) request.ops
  pub texts : AllByRecursion (Writes IsText) request.ops

-- a request of the block processor says what its session sent
pub record IsOfSent (G : Setting) (sent : Sent) (request : CommitRequest) : Type 0 where
  pub its_id : request.id ≡ sent.id
  pub its_begin : request.begin ≡ sent.begin
  pub its_level : request.level ≡ sent.level
  pub its_ops : request.ops ≡ sent.ops
  -- a request is without repeats
  pub its_used : (changes : List Change) → first_used G.tables changes (map TheVersion request.genids ++ map TheRange (ranges_of request)) ≡ first_used G.tables changes sent.used
