-- A lawful report of a run by workers, where no order of play is promised: two laws more.
--
-- The laws of a report look back from a begin, and say nothing of what stands ahead of it. So these say that no line names a
-- position before its entry's transaction was told all its replies, and that a begin is at least what its session's lines
-- before it named.
use Rattle.std.specs.Prelude.{◌≡◌, ℕ, ◌<◌, ◌≤◌, ◌++◌, ◌∷◌, [], List, Some}
use Rattle.std.specs.List.{AllByRecursion}
use Rattle.cdb_values.specs.declared.rows.Level.{Level}
use Rattle.cdb_values.specs.declared.replies.Reply.{Reply}
use Rattle.cdb_values.specs.declared.replies.Reply.TheVariants as reply
use Rattle.report_laws.specs.History.{Basis, view_of}
use Rattle.report_laws.specs.Lawful.{named_by, positions}
use Rattle.report_laws.specs.Told.{told, numbered, Numbered, alone_at}
use Rattle.report_laws.specs.View.{View}
use Rattle.report_laws.specs.Work.{Transaction, transaction_of}
use Rattle.report_text.specs.declared.reports.EntryLine.TheVariants.{Commit}
use Rattle.report_text.specs.declared.reports.Line.{Line}
use Rattle.report_text.specs.declared.reports.Line.TheVariants as line
use Rattle.report_text.specs.declared.reports.Report.{Report}
use Rattle.session_language.specs.Each.{EachAfter}
use Rattle.node_reports.specs.Lawful.{LawfulOfNodes}

-- a transaction was told its begin and all its replies, in one segment of its session's lines
pub record IsToldAll (basis : Basis) (view : View) (lines : List Line) (session : List ℕ) (txn begin : ℕ) : Type 0 where
  pub transaction : Transaction
  pub is_its : transaction_of basis.language session txn basis.script.body ≡ Some transaction
  pub before : List Numbered
  pub after : List Numbered
  pub says : told session lines ≡ before ++ (numbered txn (reply.Begin begin ∷ (alone_at basis view transaction begin).replies) ++ after)

-- an entry at a position that a line names was told so before that line
abbrev pub WasTold : Basis → View → List Line → ℕ → Type 0
WasTold basis view before position =
    (session : List ℕ) (txn begin : ℕ) (level : Level) → basis.origin.position < position → view.entry position ≡ Some (Commit position session txn begin level) → IsToldAll basis view before session txn begin

-- a line names no position ahead of its entry
abbrev pub NamesNoneAhead : Basis → View → List Line → Line → Type 0
NamesNoneAhead basis view before l = AllByRecursion (WasTold basis view before) (positions l)

-- what a begin is told behind: no line of its session before it names a position above it
abbrev pub ReachesItsOwn : List Line → List ℕ → Reply → Type 0
ReachesItsOwn before name (reply.Begin position) = AllByRecursion (λ l. AllByRecursion (λ p. p ≤ position) (named_by l.1)) (told name before)
ReachesItsOwn before name _ = Unit {0}

abbrev pub BeginsBehind : List Line → Line → Type 0
BeginsBehind before (line.Session name txn answer) = ReachesItsOwn before name answer
BeginsBehind before _ = Unit {0}

pub record LawfulByWorkers (basis : Basis) (report : Report) : Type 0 where
  pub lawful : LawfulOfNodes basis report
  pub none_ahead : EachAfter (NamesNoneAhead basis (view_of basis report.entries)) [] report.lines
  pub own : EachAfter BeginsBehind [] report.lines
