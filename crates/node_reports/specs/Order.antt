-- The order of play, of a script of one to seven nodes: the report, one line of the script after the other.
--
-- Before the first line nodes may go down by faults. Each line of the script then has its piece of the report behind
-- the pieces of the lines before it: what a session's line prints says `Piece.antt`; a stop of a node that is up prints
-- that it went down, and a start of one that is down that it came up, and behind either nodes may go down by faults; or
-- a start prints alone that its node went down, by a fault. A barrier and a feed print their line; an arm prints
-- nothing.
--
-- Where the history begins with this run, the schema's entry stands behind each place behind which a majority is up.
-- Where few are, it may come in only where a node went down by a fault, and some node is up or came up.
use Rattle.std.specs.Prelude.{◌≡◌, ℕ, ◌+◌, ◌≤◌, ◌++◌, ◌∷◌, [], List, Bool, true, false, if◌then◌else◌, ◌⊎◌}
use Rattle.std.specs.List.{list_any}
use Rattle.script_form.specs.declared.scripts.BodyLine.{BodyLine}
use Rattle.script_form.specs.declared.scripts.Act.{Act}
use Rattle.script_form.specs.declared.scripts.Act.TheVariants as act
use Rattle.script_form.specs.declared.scripts.Script.{Script}
use Rattle.session_language.specs.Each.{EachAfter}
use Rattle.report_laws.specs.History.{Basis, view_of}
use Rattle.report_laws.specs.Nodes.{downs, is_up, up_count, are_few}
use Rattle.report_laws.specs.Play.{number_told}
use Rattle.report_laws.specs.View.{View}
use Rattle.report_laws.specs.Work.{place_after}
use Rattle.report_text.specs.declared.reports.Report.{Report}
use Rattle.report_text.specs.declared.reports.EntryLine.{EntryLine}
use Rattle.report_text.specs.declared.reports.EntryLine.TheVariants.{Setup}
use Rattle.report_text.specs.declared.reports.Line.{Line}
use Rattle.report_text.specs.declared.reports.Line.TheVariants as line
use Rattle.node_reports.specs.Arms.{waiting}
use Rattle.node_reports.specs.Piece.{Saying, IsPiece}

-- a node of the script that is up goes down by a fault, and the line has the next number
pub record FallsByFault (script : Script) (before : List Line) (count node : ℕ) (fault : Bool) : Type 0 where
  pub counted : count ≡ downs before + 1
  pub of_script : (1 ≤ node) × (node ≤ script.nodes)
  pub was_up : is_up node before ≡ true
  pub by_fault : fault ≡ true

abbrev pub IsFault : Script → List Line → Line → Type 0
IsFault script before (line.Down count node fault) = FallsByFault script before count node fault
IsFault script before (line.Session name txn answer) = ⊥
IsFault script before (line.Up node) = ⊥
IsFault script before line.Barrier = ⊥
IsFault script before (line.Fed position) = ⊥

abbrev pub is_fault : Line → Bool
is_fault (line.Down count node fault) = fault
is_fault _ = false

abbrev pub is_up_line : Line → Bool
is_up_line (line.Up node) = true
is_up_line _ = false

-- the schema's entry comes in by these lines, behind the lines `before` and over that history, or not
abbrev pub IsOpened : Basis → List EntryLine → List Line → List Line → List EntryLine → Type 0
IsOpened basis history before mine [] = basis.origin.position ≡ 0 → history ≡ [] → are_few basis.script.nodes (before ++ mine) ≡ true
IsOpened basis history before mine (e ∷ es) =
    (es ≡ []) × (e ≡ Setup 1) × (basis.origin.position ≡ 0) × (history ≡ [])
    × ((are_few basis.script.nodes (before ++ mine) ≡ false)
    ⊎ ((list_any is_fault mine ≡ true) × ((1 ≤ up_count basis.script.nodes (before ++ mine)) ⊎ (list_any is_up_line mine ≡ true))))

-- nothing is printed where the node is so already
pub record IsSo (before : List Line) (node : ℕ) (up : Bool) (mine : List Line) : Type 0 where
  pub was : is_up node before ≡ up
  pub says : mine ≡ []

-- else a line, and behind it the faults of other nodes
pub record Changes (script : Script) (before : List Line) (node : ℕ) (up : Bool) (told : Line) (mine : List Line) : Type 0 where
  pub was : is_up node before ≡ up
  pub faults : List Line
  pub says : mine ≡ told ∷ faults
  pub each : EachAfter (IsFault script) (before ++ told ∷ []) faults

-- or a start fails, by a fault before the node is up
pub record Fails (before : List Line) (node : ℕ) (mine : List Line) : Type 0 where
  pub was : is_up node before ≡ false
  pub says : mine ≡ line.Down (downs before + 1) node true ∷ []

-- what a stop and a start of a node print
abbrev pub IsStopped : Script → List Line → ℕ → List Line → Type 0
IsStopped script before node mine = IsSo before node false mine ⊎ Changes script before node true (line.Down (downs before + 1) node false) mine

abbrev pub IsStarted : Script → List Line → ℕ → List Line → Type 0
IsStarted script before node mine = IsSo before node true mine ⊎ (Changes script before node false (line.Up node) mine ⊎ Fails before node mine)

-- the position of the last feed
abbrev pub last_fed : ℕ → List Line → ℕ
last_fed position [] = position
last_fed position (line.Fed at ∷ ls) = last_fed at ls
last_fed position (_ ∷ ls) = last_fed position ls

-- the position of a feed: the last one of the history where a majority is up, else that of the feed before
abbrev pub fed_at : Script → ℕ → List Line → ℕ
fed_at script now before = if are_few script.nodes before then last_fed 0 before else now

-- a session's line as it is said behind the script's lines `done` and the report's lines `before`
abbrev pub saying : Basis → View → List BodyLine → List Line → List ℕ → List ℕ → Saying
saying basis view done before session text = record {
  basis = basis;
  view = view;
  session = session;
  number = number_told basis.language (place_after basis.language session done) text;
  kind = basis.language.kind text;
  pending = (place_after basis.language session done).pending;
  arms = waiting session done;
  before = before;
}

-- the piece of a line of the script, and the entries that it appends
abbrev pub IsTurnOfNodes : Basis → View → List BodyLine → List Line → List EntryLine → Act → List Line → List Line → List EntryLine → Type 0
IsTurnOfNodes basis view done before history (act.Say session text) mine others added = IsPiece (saying basis view done before session text) (view_of basis history).last mine others added
IsTurnOfNodes basis view done before history (act.Stop node) mine others added = IsStopped basis.script before node mine × IsOpened basis history before mine added
IsTurnOfNodes basis view done before history (act.Start node) mine others added = IsStarted basis.script before node mine × IsOpened basis history before mine added
IsTurnOfNodes basis view done before history (act.Arm session moment) mine others added = (mine ≡ []) × (added ≡ [])
IsTurnOfNodes basis view done before history act.Barrier mine others added = (mine ≡ line.Barrier ∷ []) × (added ≡ [])
IsTurnOfNodes basis view done before history act.Feed mine others added = (mine ≡ line.Fed (fed_at basis.script (view_of basis history).last before) ∷ []) × (added ≡ [])

-- the feed at the end, where a table is watched
abbrev pub fed_of : {W : Type 0} → ℕ → List W → List Line
fed_of position [] = []
fed_of position (w ∷ ws) = line.Fed position ∷ []

abbrev pub closing : Basis → List Line → List EntryLine → List Line
closing basis before history = fed_of (fed_at basis.script (view_of basis history).last before) basis.script.watches

-- lines and entries are those of the script's lines in turn, behind the script's lines `done`, of which
-- the lines `before` were printed and the entries `history` stood then
abbrev pub InTurnsOfNodes : Basis → View → List BodyLine → List Line → List EntryLine → List BodyLine → List Line → List EntryLine → Type 0
InTurnsOfNodes basis view done before history [] lines entries = (lines ≡ closing basis before history) × (entries ≡ [])
InTurnsOfNodes basis view done before history (b ∷ bs) lines entries =
    (mine : List Line) × (others : List Line) × (added : List EntryLine) × (later : List EntryLine)
    × (lines ≡ mine ++ others) × (entries ≡ added ++ later)
    × IsTurnOfNodes basis view done before history b.act mine others added
    × InTurnsOfNodes basis view (done ++ b ∷ []) (before ++ mine) (history ++ added) bs others later

pub record InNodesOrder (basis : Basis) (report : Report) : Type 0 where
  -- the nodes that go down before the first line of the script, and the schema's entry where it comes in then
  pub first : List Line
  pub go_down : EachAfter (IsFault basis.script) [] first
  pub opening : List EntryLine
  pub opened : IsOpened basis [] [] first opening
  pub rest : List Line
  pub lines_are : report.lines ≡ first ++ rest
  pub later : List EntryLine
  pub entries_are : report.entries ≡ opening ++ later
  pub order : InTurnsOfNodes basis (view_of basis report.entries) [] first opening basis.script.body rest later
