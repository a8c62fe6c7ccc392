-- A lawful report: what the database promises of every run, over its script and the history before it.
--
-- Each law is a statement about every line or entry and what stands before it.
use Rattle.std.specs.Prelude.{◌≡◌, ℕ, ◌≤◌, ◌++◌, ◌∷◌, ◌==◌, [], List, Bool, true, false, Option, Some, None, if◌then◌else◌}
use Rattle.std.specs.List.{AllByRecursion}
use Rattle.std.specs.Str.{bytes_eq}
use Rattle.session_language.specs.Each.{EachAfter}
use Rattle.report_laws.specs.History.{Origin, Basis, IsEntryAfter, view_of}
use Rattle.report_laws.specs.Places.{HasItsPlace}
use Rattle.report_laws.specs.Told.{told, Along, IsTold, IsEntryTold}
use Rattle.report_laws.specs.Work.{work}
use Rattle.report_text.specs.declared.reports.Report.{Report}
use Rattle.report_text.specs.declared.reports.Line.{Line}
use Rattle.report_text.specs.declared.reports.Line.TheVariants as line
use Rattle.cdb_values.specs.declared.replies.Reply.{Reply}
use Rattle.cdb_values.specs.declared.replies.Reply.TheVariants as reply

-- the positions that an answer names
abbrev pub named_by : Reply → List ℕ
named_by (reply.Begin position) = position ∷ []
named_by (reply.Row row) = []
named_by (reply.Done rows) = []
named_by (reply.Changed rows) = []
named_by (reply.Error cause) = []
named_by (reply.Level level) = []
named_by reply.RolledBack = []
named_by (reply.Committed position) = position ∷ []
named_by (reply.ConflictGenid position table genid) = position ∷ []
named_by (reply.ConflictRange position table key) = position ∷ []
named_by (reply.Duplicate position table key) = position ∷ []
named_by (reply.Lost node down) = []
named_by (reply.NoMajority up nodes) = []
named_by reply.NoMemory = []

-- the positions that a line names
abbrev pub positions : Line → List ℕ
positions (line.Session name txn answer) = named_by answer
positions (line.Down count node fault) = []
positions (line.Up node) = []
positions line.Barrier = []
positions (line.Fed position) = position ∷ []

-- every position that these lines name is at most b
abbrev pub NameUpTo : ℕ → List Line → Type 0
NameUpTo b lines = AllByRecursion (λ l. AllByRecursion (λ p. p ≤ b) (positions l)) lines

-- whether a line is one of that session's, or a barrier
abbrev pub is_heard : List ℕ → Line → Bool
is_heard name (line.Session session txn answer) = bytes_eq session name
is_heard name (line.Down count node fault) = false
is_heard name (line.Up node) = false
is_heard name line.Barrier = true
is_heard name (line.Fed position) = false

-- a begin is fresh: it is at least 1, at least the base, and at least every position that was named
-- before a line of that session, or before a barrier
pub record IsFresh (origin : Origin) (before : List Line) (name : List ℕ) (begin : ℕ) : Type 0 where
  pub first : 1 ≤ begin
  pub base : origin.position ≤ begin
  pub heard : (front : List Line) (mark : Line) (back : List Line) → before ≡ front ++ mark ∷ back → is_heard name mark ≡ true → NameUpTo begin front

-- an answer that is a begin is fresh
abbrev pub IsFreshAnswer : Origin → List Line → List ℕ → Reply → Type 0
IsFreshAnswer origin before name (reply.Begin position) = IsFresh origin before name position
IsFreshAnswer origin before name _ = Unit {0}

-- a line that is a begin is fresh
abbrev pub IsFreshLine : Origin → List Line → Line → Type 0
IsFreshLine origin before (line.Session name txn answer) = IsFreshAnswer origin before name answer
IsFreshLine origin before _ = Unit {0}

abbrev pub base_line : ℕ → Option ℕ
base_line position = if position == 0 then None else Some position

pub record Lawful (basis : Basis) (report : Report) : Type 0 where
  -- what each session was told are its transactions and other lines, in order, each transaction with the
  -- replies at its begin position and with a right outcome
  pub replies : (name : List ℕ) → Along (IsTold basis (view_of basis report.entries) name) (work basis.language name basis.script.body) (told name report.lines)
  -- every begin is fresh
  pub begins : EachAfter (IsFreshLine basis.origin) [] report.lines
  -- every entry is right after those before it, so each transaction stands in the history once
  pub history : EachAfter (IsEntryAfter basis) [] report.entries
  -- every entry's transaction was told whole, in one segment of its session's lines
  pub answered : AllByRecursion (IsEntryTold basis (view_of basis report.entries) report.lines) report.entries
  -- every line has its place behind the lines before it
  pub places : EachAfter (HasItsPlace basis.script) [] report.lines
  -- no feed has a line
  pub feeds : report.feeds ≡ []
  -- the base and the length of the history are told
  pub base : report.base ≡ base_line basis.origin.position
  pub end : report.end ≡ (view_of basis report.entries).last
