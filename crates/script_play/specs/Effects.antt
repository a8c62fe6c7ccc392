-- What the code says of a line that is still to be done, and of one that was.
use Rattle.std.specs.Prelude.{◌≡◌, ℕ, ◌+◌, ◌++◌, ◌∷◌, [], List, Option, Some, None, length}
use Rattle.blkseq_table.specs.OfLogs.{HasId, id_of}
use Rattle.cdb_values.specs.Changes.{changes_of}
use Rattle.cdb_values.specs.Rows.{apply_all}
use Rattle.cdb_values.specs.declared.rows.Level.{Level}
use Rattle.cdb_values.specs.declared.rows.RowOp.{RowOp}
use Rattle.cdb_values.specs.declared.tables.TableDef.{TableDef}
use Rattle.log_rows.specs.History.{rows_over, IsCommit}
use Rattle.log_rows.specs.Sizes.{IsSmall}
use Rattle.phys_log.specs.Logs.{pages_of, Fits}
use Rattle.phys_log.specs.declared.entries.CommitId.{CommitId}
use Rattle.phys_log.specs.declared.entries.Entry.{Entry}
use Rattle.phys_log.specs.declared.entries.Entry.TheVariants.{Setup, Commit as EntryCommit}
use Rattle.osql_session.specs.Sessions.{Session}
use Rattle.range_validate.specs.Touches.{changes_in}
use Rattle.report_text.specs.declared.reports.EntryLine.{EntryLine}
use Rattle.report_text.specs.declared.reports.EntryLine.TheVariants.{Commit}
use Rattle.report_text.specs.declared.reports.Line.{Line}
use Rattle.cdb_values.specs.declared.replies.Reply.{Reply}
use Rattle.table_store.specs.Stored.{Stands}
use Rattle.session_turns.specs.Decisions.{added_by}
use Rattle.script_play.specs.EntryLines.{line_of}
use Rattle.script_play.specs.Ready.{IsAble}
use Rattle.script_play.specs.RunViews.{world}
use Rattle.session_turns.specs.Views.{state_in, IsOwn}
use Rattle.script_play.specs.Start.{Start, ground_of}
use Rattle.session_turns.specs.Step.{outcome, Turned}
use Rattle.script_play.specs.declared.effects.DecidedEffect.{DecidedEffect}
use Rattle.script_play.specs.declared.verdicts.Verdict.{Verdict}
use Rattle.session_turns.specs.declared.states.SessionState.{SessionState}

-- the transaction that an entry names: of a session, under its number, begun there, at a level; it is decided in a generation,
-- and began in one
pub record Named : Type 0 where
  pub generation : ℕ
  pub began : ℕ
  pub session : List ℕ
  pub number : ℕ
  pub begin : ℕ
  pub level : Level

abbrev pub named_so : ℕ → List ℕ → ℕ → ℕ → Level → Named
named_so generation session number begin level = record { generation = generation; began = generation; session = session; number = number; begin = begin; level = level }

-- an entry is of that generation, and its transaction began in that one
abbrev pub IsOfIts : Named → Entry → Type 0
IsOfIts named (Setup generation schema records) = ⊥
IsOfIts named (EntryCommit generation id begin level changes records) = (generation ≡ named.generation) × (id.began ≡ named.began)

-- no entry of a log has the identity of this one
abbrev pub IsFreshIn : List Entry → Entry → Type 0
IsFreshIn log entry = (position : ℕ) (id : CommitId) → id_of entry ≡ Some id → HasId log position id → ⊥

-- an entry is the next of a log, names that transaction, which no entry before it names, and makes of the rows what these
-- operations make of them; the numbers that its pages tell stay below 2^62
pub record IsEntryOf (start : Start) (tables : List TableDef) (log : List Entry) (entry : Entry) (named : Named) (ops : List RowOp) : Type 0 where
  pub names : (position : ℕ) → line_of position entry ≡ Commit position named.session named.number named.begin named.level
  pub of_its : IsOfIts named entry
  pub fits : Fits log entry
  pub commit : IsCommit entry
  pub stands : Stands (pages_of (log ++ entry ∷ [])) tables (rows_over (ground_of start) (log ++ entry ∷ []))
  pub rows : rows_over (ground_of start) (log ++ entry ∷ []) ≡ apply_all (rows_over (ground_of start) log) ops
  pub changes : changes_in entry ≡ changes_of ops (rows_over (ground_of start) log).next
  pub fresh : IsFreshIn log entry
  pub small : IsSmall log → IsSmall (log ++ entry ∷ [])

-- the entry that is to be appended, where operations are committed
abbrev pub IsAdded : Start → List TableDef → List Entry → Option Entry → Named → List (List RowOp) → Type 0
IsAdded start tables log None named [] = Unit {0}
IsAdded start tables log None named (ops ∷ more) = ⊥
IsAdded start tables log (Some entry) named [] = ⊥
IsAdded start tables log (Some entry) named (ops ∷ []) = IsEntryOf start tables log entry named ops
IsAdded start tables log (Some entry) named (ops ∷ _ ∷ more) = ⊥

-- what is decided on the operations of a transaction, and the entry that it appends
pub record IsVerdict (start : Start) (tables : List TableDef) (log : List Entry) (v : Verdict) (outcome : Reply) (named : Named) (ops : List RowOp) : Type 0 where
  pub told : v.outcome ≡ outcome
  pub added : IsAdded start tables log v.added named (added_by outcome ops)

-- no entry of a log has an identity
abbrev pub IsUnusedIn : List Entry → CommitId → Type 0
IsUnusedIn log id = (position : ℕ) → HasId log position id → ⊥

-- the transaction of a session, decided in a generation
abbrev pub transaction_named : ℕ → Session → Named
transaction_named generation s = record { generation = generation; began = s.id.began; session = s.id.session; number = s.id.txn; begin = s.begin; level = s.level }

-- what is decided on the transaction of a session behind a log, and the entry of a generation that it appends
abbrev pub IsVerdictOn : Start → ℕ → List TableDef → List Entry → Session → Verdict → Type 0
IsVerdictOn start generation tables log s v =
    IsVerdict start tables log v (outcome (world start tables log) s.begin s.level s.genids s.ranges s.ops) (transaction_named generation s) s.ops

-- the transaction that comes to its commit by a line can, if one does: its operations can be done where it began, and no entry
-- has its identity
abbrev pub CanCommit : Start → List TableDef → List Entry → Option Session → Type 0
CanCommit start tables log None = Unit {0}
CanCommit start tables log (Some s) = IsAble start tables (length log) log s.begin s.ops × IsUnusedIn log s.id

-- an effect is what a line of a session does
pub record IsEffect (start : Start) (generation : ℕ) (tables : List TableDef) (log : List Entry) (name : List ℕ) (p : DecidedEffect) (t : Turned) : Type 0 where
  pub number : p.number ≡ t.number
  pub replies : p.replies.items ≡ t.replies
  pub after : state_in p.after ≡ t.after
  pub own : IsOwn generation name p.after
  pub added : IsAdded start tables log p.added (named_so generation name t.number t.begin t.after.level) t.added

-- lines were added behind others
abbrev pub Grown : List Line → List Line → Type 0
Grown old new = (more : List Line) × (new ≡ old ++ more)

-- the line of the history of an entry that is appended behind a position
abbrev pub lines_added : ℕ → Option Entry → List EntryLine
lines_added now None = []
lines_added now (Some entry) = line_of (now + 1) entry ∷ []
