-- What is lawful of a report of nodes that stop and come up, but for the operator's lines and the feeds.
--
-- What the sessions are told, the history, and the places of lines. That lines of nodes are charged, and that the operator's lines
-- have places, are laws of `cluster_events`.
use Rattle.std.specs.Prelude.{◌≡◌, ℕ, [], List}
use Rattle.std.specs.List.{AllByRecursion}
use Rattle.node_reports.specs.Told.{IsToldAlong, IsHeard}
use Rattle.cluster_events.specs.LinePlaces.{HasPlaceAmongNodes}
use Rattle.report_laws.specs.History.{Basis, view_of, IsEntryAfter}
use Rattle.report_laws.specs.Lawful.{IsFreshLine, base_line}
use Rattle.report_laws.specs.Told.{told, Along}
use Rattle.report_laws.specs.Work.{work}
use Rattle.report_text.specs.declared.reports.Report.{Report}
use Rattle.session_language.specs.Each.{EachAfter}

pub record IsLawfulBesideOperator (basis : Basis) (report : Report) : Type 0 where
  -- what each session was told are its transactions and other lines, in order, each with the replies at its begin position and with
  -- a right outcome, or cut short
  pub replies : (name : List ℕ) → Along (IsToldAlong basis (view_of basis report.entries) name) (work basis.language name basis.script.body) (told name report.lines)
  -- every begin is fresh
  pub begins : EachAfter (IsFreshLine basis.origin) [] report.lines
  -- every entry is right after those before it, so each transaction stands in the history once
  pub history : EachAfter (IsEntryAfter basis) [] report.entries
  -- every entry's transaction was told its replies, and that it is committed there, or was cut short at its commit
  pub answered : AllByRecursion (IsHeard basis (view_of basis report.entries) report.lines) report.entries
  -- every line has its place behind the lines before it
  pub places : EachAfter (HasPlaceAmongNodes basis.script) [] report.lines
  -- the base and the length of the history are told
  pub base : report.base ≡ base_line basis.origin.position
  pub end : report.end ≡ (view_of basis report.entries).last
