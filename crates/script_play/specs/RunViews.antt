-- The run so far, as the code keeps it, in the words of the definitions.
use Rattle.std.specs.Prelude.{◌≡◌, ℕ, ◌<◌, ◌≤◌, ◌++◌, ◌∷◌, [], List, length, map, Bool, false, true, slice_get, Some}
use Rattle.std.specs.Str.{is_utf8}
use Rattle.blkseq_table.specs.OfLogs.{HasId}
use Rattle.block_processor.specs.Changed.{changed_in}
use Rattle.cdb_values.specs.declared.rows.RowOp.{RowOp}
use Rattle.cdb_values.specs.declared.tables.TableDef.{TableDef}
use Rattle.log_rows.specs.History.{rows_over, rows_over_at}
use Rattle.log_rows.specs.Sizes.{IsSmall}
use Rattle.cdb_values.specs.Rows.{no_rows}
use Rattle.phys_log.specs.Logs.{pages_of}
use Rattle.phys_log.specs.declared.entries.CommitId.{CommitId}
use Rattle.phys_log.specs.declared.entries.Entry.{Entry}
use Rattle.phys_log.specs.declared.entries.Entry.TheVariants.{Setup}
use Rattle.phys_log.specs.declared.entries.LogRecord.{LogRecord}
use Rattle.table_store.specs.Stored.{Stands}
use Rattle.report_laws.specs.Told.{lines_of}
use Rattle.report_text.specs.declared.reports.EntryLine.{EntryLine}
use Rattle.report_text.specs.declared.reports.EntryLine.TheVariants.{Setup as EntrySetup}
use Rattle.osql_session.specs.Sessions.{Session}
use Rattle.script_form.specs.CanRun.{script_tables}
use Rattle.script_form.specs.declared.scripts.BodyLine.{BodyLine}
use Rattle.script_form.specs.declared.scripts.Script.{Script}
use Rattle.script_form.specs.declared.scripts.SessionLine.{SessionLine}
use Rattle.cdb_values.specs.declared.rows.Level.{Level}
use Rattle.session_language.specs.Language.{Kind}
use Rattle.sql_answer.specs.Answers.{Meaning}
use Rattle.sql_answer.specs.Language.{meaning, sql_binder}
use Rattle.script_play.specs.Start.{Start, ground_of}
use Rattle.script_play.specs.Down.{history_of, IsHeld, IsLostBy}
use Rattle.script_play.specs.Falls.{IsDoneOn, IsTakenOn}
use Rattle.session_turns.specs.Views.{doing_in, state_in, IsOwn}
use Rattle.script_play.specs.EntryLines.{AreTold}
use Rattle.script_play.specs.Ready.{AreEarlier, IsReady, IsReadyToGo, IsLogged}
use Rattle.script_play.specs.Run.{Run, run_of}
use Rattle.session_turns.specs.Seen.{SeenRows}
use Rattle.script_play.specs.SoFar.{IsBefore, IsStoredSoFar, now_of}
use Rattle.session_turns.specs.Step.{World, Turned, turn, turn_of, world_of}
use Rattle.script_play.specs.Step.{entries_added, IsTurned}
use Rattle.script_play.specs.declared.run.RunSoFar.{RunSoFar}
use Rattle.session_turns.specs.declared.states.InTransaction.{InTransaction}
use Rattle.session_turns.specs.declared.states.InTransaction.TheVariants.{No, Open, Aborted}
use Rattle.session_turns.specs.declared.states.SessionState.{SessionState}

-- the run so far
abbrev pub run_in : {D : Type 0} → RunSoFar D → Run
run_in r = run_of r.lines.items r.entries.items r.log

-- the rows at each position of a log
abbrev pub seen_in : Start → List Entry → SeenRows
seen_in start log = record { at = rows_over_at (ground_of start) log; next = (rows_over (ground_of start) log).next }

-- what the run is before a line
abbrev pub world : Start → List TableDef → List Entry → World
world start tables log = world_of tables (seen_in start log) (changed_in log) (length log)

-- the log is ready for a line
abbrev pub IsReadyFor : Start → List TableDef → List Entry → Type 0
IsReadyFor start tables log = IsReady start tables (length log) log

-- what some text of UTF-8 means in the schema
abbrev pub IsOfText : List TableDef → Meaning → Type 0
IsOfText tables meant = (text : List ℕ) × (is_utf8 text ≡ true) × (meant ≡ meaning sql_binder tables text)

-- the history and the log are the same
abbrev pub IsSameHistory : Run → Run → Type 0
IsSameHistory r r' = (r'.entries ≡ r.entries) × (r'.log ≡ r.log)

-- a log that has the setup of a schema alone, in a generation; its pages stand for tables without rows, with numbers
-- below 2^62
pub record IsOpenedLog (tables : List TableDef) (generation : ℕ) (log : List Entry) : Type 0 where
  pub records : List LogRecord
  pub is : log ≡ Setup generation tables records ∷ []
  pub stands : Stands (pages_of log) tables (no_rows tables)
  pub small : IsSmall log

-- the log of a node at the opening of a run: where there was none before, it has the setup of the schema alone; any other
-- one is as it was
pub record IsOpenedBehind (tables : List TableDef) (generation : ℕ) (before log : List Entry) : Type 0 where
  pub first : before ≡ [] → IsOpenedLog tables generation log
  pub later : 1 ≤ length before → log ≡ before

-- the run at its opening: where there was no entry before, the schema stands in the history
pub record IsOpening (tables : List TableDef) (generation : ℕ) (before : List Entry) (entries : List EntryLine) (log : List Entry) : Type 0 where
  pub first : before ≡ [] → (entries ≡ EntrySetup 1 ∷ []) × IsOpenedLog tables generation log
  pub later : 1 ≤ length before → (entries ≡ []) × (log ≡ before)

-- the identity of a transaction of a session, begun in a generation
abbrev pub id_so : ℕ → List ℕ → ℕ → CommitId
id_so generation name number = record { began = generation; session = name; txn = number }

-- the number of a transaction that is over, by how many the session has begun
abbrev pub IsOverBy : InTransaction → ℕ → ℕ → Type 0
IsOverBy No number txn = txn ≤ number
IsOverBy (Open session) number txn = txn < number
IsOverBy Aborted number txn = Unit {0}

-- the transactions of a session that have entries in a log are over
abbrev pub AreOverIn : ℕ → List ℕ → ℕ → InTransaction → List Entry → Type 0
AreOverIn generation name number d log = (position txn : ℕ) → HasId log position (id_so generation name txn) → IsOverBy d number txn

abbrev pub AreOver : ℕ → List ℕ → SessionState → List Entry → Type 0
AreOver generation name s log = AreOverIn generation name s.number s.doing log

-- each session's open transaction is its own
abbrev pub AreOwn : ℕ → List SessionLine → List SessionState → Type 0
AreOwn generation sessions states =
    (at : ℕ) (s : SessionLine) (x : SessionState) → slice_get sessions at ≡ Some s → slice_get states at ≡ Some x → IsOwn generation s.name x

-- what a line of a session is to do, behind a log
abbrev pub turn_in : Start → List TableDef → List Entry → SessionState → Meaning → Kind → Turned
turn_in start tables log s meant kind = turn_of (world start tables log) s.number s.level meant kind (doing_in s.doing)

-- what a session is doing can go on behind a log
abbrev pub CanGoOn : Start → List TableDef → List Entry → InTransaction → Type 0
CanGoOn start tables log d = IsReadyToGo start tables (length log) log (doing_in d)

-- the log of a run whose store failed has one entry more than the history: it is that of the transaction that was lost by it,
-- and with it the log would be that of a history too
pub record HasFurther (script : Script) (start : Start) (generation : ℕ) (r : Run) : Type 0 where
  pub line : EntryLine
  pub lost : IsLostBy r.lines line
  pub told : AreTold start.before generation (r.entries ++ line ∷ []) r.log.entries
  pub logged : IsLogged start (script_tables script) (length r.log.entries) r.log.entries
  pub stored : IsStoredSoFar script start (r.entries ++ line ∷ []) (changed_in r.log.entries)
      (seen_in start r.log.entries)

-- the run before a line, with the lines `left` still to do: its log is that of the history, and one entry more where the node
-- is down
pub record IsBeforeLine (script : Script) (start : Start) (generation had : ℕ) (left : List BodyLine) (r : Run) (states : List SessionState) : Type 0 where
  pub before : IsBefore script start r.log.failed left r.lines r.entries (changed_in (history_of r.log)) (seen_in start (history_of r.log)) (map state_in states)
  pub logged : IsLogged start (script_tables script) (now_of start r.entries) (history_of r.log)
  pub told : AreTold start.before generation r.entries (history_of r.log)
  pub own : AreOwn generation script.sessions states
  pub earlier : AreEarlier generation start.before
  pub held : IsHeld generation had r.log
  pub further : r.log.failed ≡ true → HasFurther script start generation r

-- a line of a session did what it does where the node stood, or was cut short
abbrev pub IsTakenAt : Start → List TableDef → List ℕ → SessionState → List ℕ → SessionState → Run → Run → Type 0
IsTakenAt start tables name before text after r r' =
    IsTakenOn r.log.failed r'.log.failed (world start tables (history_of r.log)) name (state_in before) text (state_in after)
    r.lines r'.lines r.entries r'.entries (changed_in (history_of r'.log)) (seen_in start (history_of r'.log))

-- a line on a node that was up did what it does, or the node went down at its entry
abbrev pub IsDoneAt : Start → List TableDef → List ℕ → Turned → SessionState → Run → Run → Type 0
IsDoneAt start tables name t after r r' =
    IsDoneOn r'.log.failed (world start tables (history_of r.log)) name t (state_in after)
    r.lines r'.lines r.entries r'.entries (changed_in (history_of r'.log)) (seen_in start (history_of r'.log))

-- a line at whose entry the store failed would have been done, but for that: its entry stands in the log
pub record WouldBeDone (start : Start) (generation : ℕ) (tables : List TableDef) (name : List ℕ) (t : Turned) (r r' : Run) : Type 0 where
  pub ops : List RowOp
  pub commits : t.added ≡ ops ∷ []
  pub turned : IsTurned (world start tables r.log.entries) name t r.lines (r.lines ++ lines_of name t.number t.replies)
      r.entries (r.entries ++ entries_added name (length r.log.entries) t) (changed_in r'.log.entries) (seen_in start r'.log.entries)
  pub logged : IsLogged start tables (length r'.log.entries) r'.log.entries
  pub told : AreTold start.before generation r.entries r.log.entries
      → AreTold start.before generation (r.entries ++ entries_added name (length r.log.entries) t) r'.log.entries

-- what a line leaves in the log beside the history, by whether the node is down before it and behind it
abbrev pub IsFurtherOn : Bool → Bool → Start → ℕ → List TableDef → List ℕ → Turned → Run → Run → Type 0
IsFurtherOn false false start generation tables name t r r' = Unit {0}
IsFurtherOn false true start generation tables name t r r' = WouldBeDone start generation tables name t r r'
IsFurtherOn true false start generation tables name t r r' = Unit {0}
IsFurtherOn true true start generation tables name t r r' = r'.log ≡ r.log

abbrev pub IsFurtherAt : Start → ℕ → List TableDef → List ℕ → Turned → Run → Run → Type 0
IsFurtherAt start generation tables name t r r' = IsFurtherOn r.log.failed r'.log.failed start generation tables name t r r'

-- the same, and the log is in order behind it
pub record IsTakenFrom (start : Start) (generation : ℕ) (tables : List TableDef) (name : List ℕ) (before : SessionState) (text : List ℕ) (after : SessionState) (r r' : Run) : Type 0 where
  pub taken : IsTakenAt start tables name before text after r r'
  pub logged : IsLogged start tables (length (history_of r'.log)) (history_of r'.log)
  pub told : AreTold start.before generation r.entries (history_of r.log) → AreTold start.before generation r'.entries (history_of r'.log)
  pub own : IsOwn generation name after
  pub held : (had : ℕ) → IsHeld generation had r.log → IsHeld generation had r'.log
  pub further : IsFurtherAt start generation tables name (turn (world start tables (history_of r.log)) (state_in before) text) r r'

pub record IsDoneFrom (start : Start) (generation : ℕ) (tables : List TableDef) (name : List ℕ) (t : Turned) (after : SessionState) (r r' : Run) : Type 0 where
  pub done : IsDoneAt start tables name t after r r'
  pub logged : IsLogged start tables (length (history_of r'.log)) (history_of r'.log)
  pub told : AreTold start.before generation r.entries (history_of r.log) → AreTold start.before generation r'.entries (history_of r'.log)
  pub own : IsOwn generation name after
  pub held : (had : ℕ) → IsHeld generation had r.log → IsHeld generation had r'.log
  pub further : IsFurtherAt start generation tables name t r r'
