-- What the steps of a run over a store tell and keep.
use Rattle.std.specs.Prelude.{◌≡◌, ◌<◌, ℕ, List, false, length, take, slice_get, Some}
use Rattle.cdb_outside.specs.Stores.{JoinsFront}
use Rattle.cdb_values.specs.Rows.{Rows}
use Rattle.cdb_values.specs.declared.tables.TableDef.{TableDef}
use Rattle.node_log.specs.Logged.{Logged, Stand}
use Rattle.node_opening.specs.declared.up.WhyNotUp.{WhyNotUp}
use Rattle.node_opening.specs.declared.up.WhyNotUp.TheVariants as why
use Rattle.node_opening.specs.Up.{IsTakenUp}
use Rattle.node_reports.specs.Lawful.{LawfulOfNodes}
use Rattle.node_reports.specs.Order.{InNodesOrder}
use Rattle.phys_log.specs.declared.entries.Entry.{Entry}
use Rattle.report_laws.specs.Nodes.{downs}
use Rattle.report_text.specs.Text.{report_text}
use Rattle.report_text.specs.Types.{FitsTypes}
use Rattle.report_text.specs.declared.reports.EntryLine.{EntryLine}
use Rattle.report_text.specs.declared.reports.Report.{Report}
use Rattle.script_form.specs.CanRun.{script_tables}
use Rattle.script_form.specs.declared.scripts.Script.{Script}
use Rattle.script_form.specs.declared.scripts.TableLine.{TableLine}
use Rattle.script_play.specs.Basis.{from_start}
use Rattle.script_play.specs.Played.{IsFurther, IsHistory, IsHistoryTold}
use Rattle.script_play.specs.Ready.{AreEarlier, CanBegin}
use Rattle.script_play.specs.RunViews.{IsOpenedBehind}
use Rattle.script_play.specs.Serial.{AreSerial}
use Rattle.script_play.specs.Start.{Start}
use Rattle.store_log.specs.Keeps.{Stored}
use Rattle.script_main.specs.Runs.{IsDownText, IsLeftBy, IsMore, IsRun}
use Rattle.script_main.specs.Stores.{cluster_of, with_tables, HasRows}
use Rattle.script_main.specs.Texts.{refused_text, store_text, unsound_text}
use Rattle.cdb_outside.specs.declared.statuses.Status.{Status}
use Rattle.cdb_outside.specs.declared.statuses.Status.TheVariants as status

-- a place that is told of tables is that of one of them
abbrev pub IsPlaceIn : WhyNotUp → List TableDef → Type 0
IsPlaceIn (why.StoreFault size) given = Unit {0}
IsPlaceIn (why.Refused at) given = Unit {0}
IsPlaceIn why.Unsound given = Unit {0}
IsPlaceIn (why.Differs place) given = place < length given
IsPlaceIn why.NoMemory given = Unit {0}

-- the refusal of a table at a place, by its line
pub record IsDifferText (tables : List TableLine) (place : ℕ) (s : Status) (text : List ℕ) : Type 0 where
  pub said : TableLine
  pub at : slice_get tables place ≡ Some said
  pub status_is : s ≡ status.Refused said.line 9
  pub text_is : text ≡ refused_text said.line 9

-- what is told of a node that is not up
abbrev pub IsNotUpText : Script → WhyNotUp → Status → List ℕ → Type 0
IsNotUpText script (why.StoreFault size) s text = (s ≡ status.Done) × IsDownText script size text
IsNotUpText script (why.Refused at) s text = (s ≡ status.StoreRefused 1 at) × (text ≡ store_text 1 at)
IsNotUpText script why.Unsound s text = (s ≡ status.Unsound 1) × (text ≡ unsound_text 1)
IsNotUpText script (why.Differs place) s text = IsDifferText script.tables place s text
IsNotUpText script why.NoMemory s text = ⊥

-- the text of a report
pub record IsReportText (report : Report) (s : Status) (text : List ℕ) : Type 0 where
  pub status_is : s ≡ status.Done
  pub fits : FitsTypes report
  pub is_text : text ≡ report_text report

-- a node that is up, by what its store had before
pub record IsOpened (script : Script) (old : Stored) (base : ℕ) (log : Logged) : Type 0 where
  pub taken : IsTakenUp 1 (cluster_of script) old.synced (script_tables script) base log
  pub node : log.node ≡ 1
  pub cluster : log.cluster ≡ cluster_of script
  pub running : log.failed ≡ false
  pub calm : log.store.faults ≡ old.faults

-- the log that a node had when it was opened, by how many entries that were
abbrev pub log_before : ℕ → Logged → List Entry
log_before base log = take base log.entries

-- a run of a script can begin behind the log that a node had before, at these rows
pub record IsBegunAt (script : Script) (base : ℕ) (before : List Entry) (log : Logged) (rows : Rows) : Type 0 where
  pub node : log.node ≡ 1
  pub running : log.failed ≡ false
  pub same : log.promised ≡ log.accepted
  pub place : base ≡ length before
  pub opened : IsOpenedBehind (script_tables script) log.accepted before log.entries
  pub earlier : AreEarlier log.accepted before
  pub has_rows : HasRows before rows
  pub behind : CanBegin (script_tables script) before rows

-- what is left of a store whose log is given up
pub record IsLeftOf (log : Logged) (new : Stored) : Type 0 where
  pub joined : JoinsFront log.store.synced log.store.pending new.synced
  pub calm : new.faults ≡ log.store.faults
  pub stands : log.failed ≡ false → ∥ Stand new.synced log ∥₁

-- what is told of a run behind a log, and what is left of its store
pub record IsPlayedText (script : Script) (start : Start) (log : Logged) (new : Stored) (s : Status) (text : List ℕ) : Type 0 where
  pub report : Report
  pub history : List Entry
  pub told : IsHistoryTold script start log.accepted report history
  pub lawful : LawfulOfNodes (from_start script start) report
  pub in_order : InNodesOrder (from_start script start) report
  pub serial : AreSerial (from_start script start) report.entries
  pub is_text : IsReportText report s text
  pub left : IsLeftBy (downs report.lines) log.cluster log.store new log.accepted history (IsFurther script start log.accepted report)

-- what is left of the store of a run of a script behind a log, whatever is told of it
pub record IsLeftFrom (script : Script) (before : List Entry) (log : Logged) (new : Stored) : Type 0 where
  pub start : Start
  pub behind : start.before ≡ before
  pub has_rows : HasRows before start.rows
  pub entries : List EntryLine
  pub history : List Entry
  pub told : IsHistory script start log.accepted entries history
  pub count : ℕ
  pub left : IsLeftBy count log.cluster log.store new log.accepted history (IsMore script start log.accepted entries)

-- the same of a script that takes the tables of the log, where it has none
abbrev pub IsLeftBehind : Script → List Entry → Logged → Stored → Type 0
IsLeftBehind script before log new = IsLeftFrom (with_tables script before) before log new

-- the text of a run over a store
pub record IsRunText (script : Script) (old new : Stored) (s : Status) (text : List ℕ) : Type 0 where
  pub status_is : s ≡ status.Done
  pub run : IsRun script old new text
