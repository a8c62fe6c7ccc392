-- A lawful report of one to seven nodes: what the database promises of every run, whatever the schedule.
--
-- Each law is a statement about every line or entry and what stands before it. On a script of one node, with lines of sessions
-- alone, and in the order of play, they say what `Lawful` of report_laws says.
use Rattle.std.specs.Prelude.{◌≡◌, ℕ, ◌++◌, ◌∷◌, [], List}
use Rattle.std.specs.List.{AllByRecursion}
use Rattle.session_language.specs.Each.{EachAfter}
use Rattle.report_laws.specs.History.{Basis, IsEntryAfter, view_of}
use Rattle.report_laws.specs.Lawful.{base_line, IsFreshLine}
use Rattle.report_laws.specs.Told.{told, Along}
use Rattle.report_laws.specs.Work.{work}
use Rattle.report_text.specs.declared.reports.Report.{Report}
use Rattle.node_reports.specs.Fed.{AreFeeds}
use Rattle.node_reports.specs.Operator.{Operates}
use Rattle.node_reports.specs.Order.{last_fed}
use Rattle.node_reports.specs.Places.{HasPlace}
use Rattle.node_reports.specs.Told.{IsToldAlong, IsHeard}

pub record LawfulOfNodes (basis : Basis) (report : Report) : Type 0 where
  -- what each session was told are its transactions and other lines, in order, each transaction with the
  -- replies at its begin position and with a right outcome
  pub replies : (name : List ℕ) → Along (IsToldAlong basis (view_of basis report.entries) name) (work basis.language name basis.script.body) (told name report.lines)
  -- every begin is fresh
  pub begins : EachAfter (IsFreshLine basis.origin) [] report.lines
  -- every entry is right after those before it, so each transaction stands in the history once
  pub history : EachAfter (IsEntryAfter basis) [] report.entries
  -- every entry's transaction was told its replies, in one segment of its session's lines, and is committed or cut short at its commit
  pub answered : AllByRecursion (IsHeard basis (view_of basis report.entries) report.lines) report.entries
  -- every line has its place behind the lines before it
  pub places : EachAfter (HasPlace basis.script) [] report.lines
  -- the operator's lines have their places, and each armed stop has its arm
  pub operator : Operates basis (view_of basis report.entries) report.lines
  -- the feeds are those of the watched tables
  pub feeds : AreFeeds basis (view_of basis report.entries) (last_fed 0 report.lines) 1 basis.script.watches report.feeds
  -- the base and the length of the history are told
  pub base : report.base ≡ base_line basis.origin.position
  pub end : report.end ≡ (view_of basis report.entries).last
