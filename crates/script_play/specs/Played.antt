-- What a script that was played leaves, by where the run began.
use Rattle.std.specs.Prelude.{◌≡◌, ℕ, ◌-◌, ◌<◌, ◌≤◌, ◌++◌, ◌∷◌, [], List, Bool, true, false, Some, length, slice_get, unwrap_or}
use Rattle.block_processor.specs.Changed.{changed_in}
use Rattle.cdb_values.specs.declared.rows.Change.{Change}
use Rattle.log_replay.specs.Answers.{schema_of}
use Rattle.log_rows.specs.History.{rows_over_at, IsFrom, StandsOver}
use Rattle.log_rows.specs.Sizes.{IsSmall}
use Rattle.node_log.specs.Logged.{Logged}
use Rattle.phys_log.specs.declared.entries.Entry.{Entry}
use Rattle.report_laws.specs.History.{rows_at, changes_at, IsEntryAfter}
use Rattle.report_laws.specs.Lawful.{Lawful}
use Rattle.report_laws.specs.Nodes.{downs}
use Rattle.report_laws.specs.Play.{InPlayOrder}
use Rattle.report_text.specs.declared.reports.EntryLine.{EntryLine}
use Rattle.report_text.specs.declared.reports.Report.{Report}
use Rattle.script_form.specs.CanRun.{script_tables}
use Rattle.script_form.specs.declared.scripts.Script.{Script}
use Rattle.session_language.specs.Each.{EachAfter}
use Rattle.script_play.specs.Basis.{from_start}
use Rattle.script_play.specs.Down.{history_of, IsHeld, IsLostBy}
use Rattle.script_play.specs.EntryLines.{AreTold}
use Rattle.script_play.specs.Start.{Start, base, ground_of}

-- how many down lines a report has, by whether the node is down
abbrev pub downs_by : Bool → ℕ
downs_by false = 0
downs_by true = 1

-- what the entry at a position of a log changes
abbrev pub changed_at : List Entry → ℕ → List Change
changed_at log k = unwrap_or (slice_get (changed_in log) (k - 1)) []

-- what a report tells of a history: that of a log from where the run began; its pages tell numbers below 2^62
pub record IsHistoryTold (script : Script) (start : Start) (generation : ℕ) (report : Report) (history : List Entry) : Type 0 where
  pub lawful : Lawful (from_start script start) report
  pub in_order : InPlayOrder (from_start script start) report
  pub entries : AreTold start.before generation report.entries history
  pub schema : schema_of history ≡ Some (script_tables script)
  pub changed : (k : ℕ) → base start < k → k ≤ length history → changed_at history k ≡ changes_at (from_start script start) report.entries k
  pub rows : (k : ℕ) → IsFrom (base start) k → k ≤ length history → rows_over_at (ground_of start) history k ≡ rows_at (from_start script start) report.entries k
  pub stands : StandsOver (ground_of start) (script_tables script) history
  pub small : IsSmall history

-- lines tell the history of a log from where the run began; its pages tell numbers below 2^62
pub record IsHistory (script : Script) (start : Start) (generation : ℕ) (entries : List EntryLine) (log : List Entry) : Type 0 where
  pub lawful : EachAfter (IsEntryAfter (from_start script start)) [] entries
  pub told : AreTold start.before generation entries log
  pub schema : schema_of log ≡ Some (script_tables script)
  pub changed : (k : ℕ) → base start < k → k ≤ length log → changed_at log k ≡ changes_at (from_start script start) entries k
  pub rows : (k : ℕ) → IsFrom (base start) k → k ≤ length log → rows_over_at (ground_of start) log k ≡ rows_at (from_start script start) entries k
  pub stands : StandsOver (ground_of start) (script_tables script) log
  pub small : IsSmall log

-- a log with one entry more than the history of a report: that of the transaction that is lost by the line that the node went
-- down. No one was told of it; with its line, the history would be that of the log
pub record IsFurther (script : Script) (start : Start) (generation : ℕ) (report : Report) (log : List Entry) : Type 0 where
  pub line : EntryLine
  pub lost : IsLostBy report.lines line
  pub history : IsHistory script start generation (report.entries ++ line ∷ []) log

-- a report and the log of its node, which was opened so
pub record IsPlayed (script : Script) (start : Start) (opened : Logged) (report : Report) (log : Logged) : Type 0 where
  pub told : IsHistoryTold script start opened.accepted report (history_of log)
  pub faults : downs report.lines ≡ downs_by log.failed
  pub held : IsHeld opened.accepted opened.store.faults log
  pub further : log.failed ≡ true → IsFurther script start opened.accepted report log.entries

-- the log of a run that was given up, and that was opened so: it is the one before the run with entries of the run, which tell
-- its history, also with one entry more; and it is held as that of a run that is done
pub record IsGivenUp (script : Script) (start : Start) (opened log : Logged) : Type 0 where
  pub entries : List EntryLine
  pub history : IsHistory script start opened.accepted entries (history_of log)
  pub held : IsHeld opened.accepted opened.store.faults log
  pub further : log.failed ≡ true → (line : EntryLine) × IsHistory script start opened.accepted (entries ++ line ∷ []) log.entries
