-- What is told and kept by a run over the store of its node.
--
-- The run begins behind the log for which the store stands, at the rows for which that log's pages stand, in the generation
-- above the promised one. Where the store fails at the opening, the node is down from there on: no transaction begins, and
-- the report is that of a run behind the log that was read, or behind none.
use Rattle.std.specs.Prelude.{◌≡◌, ◌≢◌, ◌⊎◌, ℕ, ◌+◌, List, [], ◌∷◌, ◌++◌}
use Rattle.std.specs.List.{AllByRecursion}
use Rattle.cdb_values.specs.Rows.{Rows}
use Rattle.node_opening.specs.declared.up.WhyNotUp.TheVariants as why
use Rattle.node_opening.specs.Goods.{StandsForGood}
use Rattle.node_opening.specs.Left.{IsLeft, StopsPartway}
use Rattle.node_opening.specs.Why.{HasRisen, IsLengthOf}
use Rattle.phys_log.specs.declared.entries.Entry.{Entry}
use Rattle.report_laws.specs.History.{Basis}
use Rattle.node_reports.specs.Lawful.{LawfulOfNodes}
use Rattle.node_reports.specs.Order.{InNodesOrder}
use Rattle.report_laws.specs.Nodes.{downs, BeginsDown}
use Rattle.report_laws.specs.One.{IsUncut}
use Rattle.report_text.specs.Grammar.{IsReport}
use Rattle.report_text.specs.Text.{report_text}
use Rattle.report_text.specs.declared.reports.EntryLine.{EntryLine}
use Rattle.report_text.specs.declared.reports.Report.{Report}
use Rattle.script_form.specs.CanRun.{script_tables}
use Rattle.script_form.specs.declared.scripts.Script.{Script}
use Rattle.script_form.specs.Named.{IsNamedTable}
use Rattle.script_play.specs.Basis.{from_base, from_start}
use Rattle.script_play.specs.Played.{IsFurther, IsHistory, IsHistoryTold}
use Rattle.script_play.specs.Serial.{AreSerial}
use Rattle.script_play.specs.Start.{Start}
use Rattle.sound_log.specs.Sound.{IsSound}
use Rattle.sql_run.specs.Spelled.{HasColumns}
use Rattle.store_log.specs.declared.standings.Standing.TheVariants.{Log}
use Rattle.store_log.specs.Held.{StandsFor}
use Rattle.store_log.specs.Keeps.{Stored}
use Rattle.script_main.specs.Stores.{cluster_of, start_at, with_tables, HasRows, IsAlike}

-- where no transaction is cut short and no node goes down, there is no other such report
abbrev pub IsOne : Basis → Report → Type 0
IsOne basis report =
    (other : Report) → IsUncut report → LawfulOfNodes basis other → InNodesOrder basis other → IsUncut other → report ≡ other

-- the script says its tables, or those that it takes from the log are called by names and have columns. Else a report may tell a
-- row without values, or a name that is none
abbrev pub AreCalled : Script → Script → Type 0
AreCalled script whole =
    (script.tables ≢ []) ⊎ (AllByRecursion IsNamedTable (script_tables whole)
    × AllByRecursion HasColumns (script_tables whole))

-- the bytes of a store stand for the history, promised and accepted in a generation
abbrev pub Keeps : ℕ → List ℕ → ℕ → List Entry → Type 0
Keeps cluster bytes generation history = StandsFor 1 cluster bytes (Log generation generation history)

-- the store stands for a sound log
pub record IsSoundStore (script : Script) (store : Stored) : Type 0 where
  pub promised : ℕ
  pub accepted : ℕ
  pub entries : List Entry
  pub stands : StandsFor 1 (cluster_of script) store.synced (Log promised accepted entries)
  pub sound : IsSound accepted entries

-- where the store stood for a sound log, it stands for one again
abbrev pub IsSoundAgain : Script → Stored → Stored → Type 0
IsSoundAgain script old new = IsSoundStore script old → ∥ IsSoundStore script new ∥₁

-- a log with one entry more than the history of a report, that of the transaction that was lost as the node went down; it is
-- sound
pub record IsSoundFurther (script : Script) (start : Start) (generation : ℕ) (report : Report) (log : List Entry) : Type 0 where
  pub further : IsFurther script start generation report log
  pub sound : IsSound generation log

-- a log that has one entry more than these lines tell: with its line they tell it
pub record IsMore (script : Script) (start : Start) (generation : ℕ) (entries : List EntryLine) (log : List Entry) : Type 0 where
  pub line : EntryLine
  pub history : IsHistory script start generation (entries ++ line ∷ []) log

-- the same, and it is sound
pub record IsSoundMore (script : Script) (start : Start) (generation : ℕ) (entries : List EntryLine) (log : List Entry) : Type 0 where
  pub more : IsMore script start generation entries log
  pub sound : IsSound generation log

-- what is left where the node went down: the history, or such a log, which has one entry more
pub record KeepsOrMore (cluster : ℕ) (bytes : List ℕ) (generation : ℕ) (history : List Entry) (MayBe : List Entry → Type 0) : Type 0 where
  pub entry : Entry
  pub is_more : MayBe (history ++ entry ∷ [])
  pub stands : ∥ Keeps cluster bytes generation history ⊎ Keeps cluster bytes generation (history ++ entry ∷ []) ∥₁

-- what is left of the store, by how many down lines are told: none, where its count of faults is as it was, or one, where that
-- rose
abbrev pub IsLeftBy : ℕ → ℕ → Stored → Stored → ℕ → List Entry → (List Entry → Type 0) → Type 0
IsLeftBy count cluster old new generation history MayBe =
    ((count ≡ 0) × (new.faults ≡ old.faults) × ∥ Keeps cluster new.synced generation history ∥₁)
    ⊎ ((count ≡ 1) × HasRisen old.faults new.faults × KeepsOrMore cluster new.synced generation history MayBe)

-- the text of a report of a run behind the log for which the store stood, which is sound and has the script's tables; and what
-- is left of the store. The entries at level serializable are serial. The history is sound again.
pub record IsRun (script : Script) (old new : Stored) (text : List ℕ) : Type 0 where
  pub promised : ℕ
  pub accepted : ℕ
  pub before : List Entry
  pub stood : StandsForGood 1 (cluster_of script) old.synced (script_tables script) promised accepted before
  pub rows : Rows
  pub has_rows : HasRows before rows
  pub report : Report
  pub history : List Entry
  pub told : IsHistoryTold (with_tables script before) (start_at before rows) (promised + 1) report history
  pub lawful : LawfulOfNodes (from_start (with_tables script before) (start_at before rows)) report
  pub in_order : InNodesOrder (from_start (with_tables script before) (start_at before rows)) report
  pub serial : AreSerial (from_start (with_tables script before) (start_at before rows)) report.entries
  pub one : IsOne (from_start (with_tables script before) (start_at before rows)) report
  pub is_report : AreCalled script (with_tables script before) → IsReport report
  pub is_text : text ≡ report_text report
  pub left : IsLeftBy (downs report.lines) (cluster_of script) old new (promised + 1) history
      (IsSoundFurther (with_tables script before) (start_at before rows) (promised + 1) report)
  pub sound : IsSound (promised + 1) history

-- the text of a report behind a log of that size, of whatever rows, that tells of no entry, and first of all that the node went
-- down: so no transaction begins in it
pub record IsDownText (script : Script) (size : ℕ) (text : List ℕ) : Type 0 where
  pub report : Report
  pub lawful : (rows : Rows) → LawfulOfNodes (from_base script size rows) report
  pub in_order : (rows : Rows) → InNodesOrder (from_base script size rows) report
  pub first : BeginsDown report.lines
  pub down : downs report.lines ≡ 1
  pub none : report.entries ≡ []
  pub is_report : IsReport report
  pub is_text : text ≡ report_text report

-- the same where the store failed at the opening. The size is that of the log for which the store stood, or 0, where no
-- call wrote to it (`IsLengthOf`). What is left of the store is sound again
pub record IsDownFirst (script : Script) (old new : Stored) (text : List ℕ) : Type 0 where
  pub size : ℕ
  pub told : IsDownText script size text
  pub fault : HasRisen old.faults new.faults
  pub length : IsLengthOf 1 (cluster_of script) old.synced (script_tables script) size old.writes new.writes
  pub left : IsLeft (why.StoreFault size) 1 (cluster_of script) old.synced new.synced (script_tables script)
  pub again : IsSoundAgain script old new

-- what is left of the store where memory ran out at the opening, which is sound again
pub record IsStopped (script : Script) (old new : Stored) : Type 0 where
  pub partway : StopsPartway 1 (cluster_of script) old.synced new.synced (script_tables script)
  pub again : IsSoundAgain script old new

-- what is left of the store where the run was given up behind its opening, for want of memory: the log for which it stood, with
-- entries of the run, whose lines tell its history. It is sound again.
pub record IsStoreGivenUp (script : Script) (old new : Stored) : Type 0 where
  pub promised : ℕ
  pub accepted : ℕ
  pub before : List Entry
  pub stood : StandsForGood 1 (cluster_of script) old.synced (script_tables script) promised accepted before
  pub start : Start
  pub behind : start.before ≡ before
  pub has_rows : HasRows before start.rows
  pub entries : List EntryLine
  pub history : List Entry
  pub told : IsHistory (with_tables script before) start (promised + 1) entries history
  pub count : ℕ
  pub left : IsLeftBy count (cluster_of script) old new (promised + 1) history
      (IsSoundMore (with_tables script before) start (promised + 1) entries)
  pub sound : IsSound (promised + 1) history

-- what is left of the store whatever is answered: what it stood for; that with some of what the opening appends; or what a run
-- behind the opening leaves
abbrev pub IsCutOff : Script → Stored → Stored → Type 0
IsCutOff script old new =
    IsAlike script old new
    ⊎ (IsStopped script old new
    ⊎ IsStoreGivenUp script old new)
