-- A report as `play` writes it, over what the stores were found to be: in the order of play, with the nodes beside it.
--
-- Each line of the script has its piece of the report, as in the order of play. What it does to the nodes are its deeds: a stop or a
-- start; of a session's line the stops behind rows, or its commit, where that is sent to the leader. What the nodes tell by it is what
-- the piece tells of nodes, in this order. Faults of stores are free: each line has its falls, which say at which call a store fails and
-- what it keeps. They are as many as the piece tells, and all come. At the end the nodes tell base, entries and length.
use Rattle.std.specs.Prelude.{◌≡◌, ℕ, ◌+◌, ◌++◌, ◌∷◌, ◌&&◌, ◌||◌, [], List, length, Bool, true, if◌then◌else◌, ◌⊎◌}
use Rattle.cdb_values.specs.declared.rows.Level.{Level}
use Rattle.script_form.specs.declared.scripts.Act.{Act}
use Rattle.script_form.specs.declared.scripts.Act.TheVariants as act
use Rattle.script_form.specs.declared.scripts.BodyLine.{BodyLine}
use Rattle.script_form.specs.declared.scripts.Moment.{Moment}
use Rattle.cdb_values.specs.declared.replies.Reply.TheVariants as reply
use Rattle.session_language.specs.Each.{EachAfter, StandsIn}
use Rattle.report_laws.specs.History.{Basis, view_of}
use Rattle.report_laws.specs.Places.{survives}
use Rattle.report_laws.specs.Play.{commits}
use Rattle.report_laws.specs.View.{View}
use Rattle.report_text.specs.declared.reports.EntryLine.{EntryLine}
use Rattle.report_text.specs.declared.reports.Line.{Line}
use Rattle.report_text.specs.declared.reports.Line.TheVariants as line
use Rattle.report_text.specs.declared.reports.Report.{Report}
use Rattle.node_reports.specs.Arms.{is_row_due}
use Rattle.node_reports.specs.Order.{IsFault, IsOpened, IsTurnOfNodes, closing, saying}
use Rattle.node_reports.specs.Piece.{Saying, replies_in}
use Rattle.play_order.specs.Deeds.{Deed, does_all, tries}
use Rattle.play_order.specs.Deeds.Deed.{Stops, Starts, Sends}
use Rattle.play_order.specs.Elections.{chooses}
use Rattle.play_order.specs.Openings.{AreAllFit, Finding, MayPlay, gathered, read_late}
use Rattle.play_order.specs.Peers.{Fall, Peers, Switch}
use Rattle.play_order.specs.Peers.Switch.{Fell, Rose}
use Rattle.play_order.specs.Tail.{HasTail}

-- what these lines tell of nodes
abbrev pub switches : List Line → List Switch
switches [] = []
switches (line.Session name txn answer ∷ ls) = switches ls
switches (line.Down count node fault ∷ ls) = Fell node fault ∷ switches ls
switches (line.Up node ∷ ls) = Rose node ∷ switches ls
switches (line.Barrier ∷ ls) = switches ls
switches (line.Fed position ∷ ls) = switches ls

-- how many of these are faults
abbrev pub faults_in : List Switch → ℕ
faults_in [] = 0
faults_in (Fell node fault ∷ ss) = (if fault then 1 else 0) + faults_in ss
faults_in (Rose node ∷ ss) = faults_in ss

-- the stops that these lines tell
abbrev pub stops_in : List Line → List Deed
stops_in [] = []
stops_in (line.Session name txn answer ∷ ls) = stops_in ls
stops_in (line.Down count node fault ∷ ls) = if fault then stops_in ls else Stops node ∷ stops_in ls
stops_in (line.Up node ∷ ls) = stops_in ls
stops_in (line.Barrier ∷ ls) = stops_in ls
stops_in (line.Fed position ∷ ls) = stops_in ls

-- whether each stop of these lines, which stand behind `front`, is by the arm of a row
abbrev pub is_at_row : List Moment → List ℕ → List Line → Line → Bool
is_at_row arms session front (line.Session name txn answer) = true
is_at_row arms session front (line.Down count node fault) = fault || is_row_due arms session front
is_at_row arms session front (line.Up node) = true
is_at_row arms session front line.Barrier = true
is_at_row arms session front (line.Fed position) = true

abbrev pub are_at_rows : List Moment → List ℕ → List Line → List Line → Bool
are_at_rows arms session front [] = true
are_at_rows arms session front (l ∷ ls) = is_at_row arms session front l && are_at_rows arms session (front ++ l ∷ []) ls

-- nothing is sent by a session's line: its stops are those behind rows
pub record SendsNothing (s : Saying) (mine : List Line) (deeds : List Deed) : Type 0 where
  pub rows : are_at_rows s.arms s.session [] mine ≡ true
  pub is : deeds ≡ stops_in mine

-- or its commit is sent to the leader: so often as it may be, unless memory was wanting
pub record SendsCommit (s : Saying) (mine : List Line) (deeds : List Deed) : Type 0 where
  pub at_commit : commits s.kind s.pending ≡ true
  pub begin : ℕ
  pub level : Level
  pub often : ℕ
  pub as_often : (often ≡ tries (survives s.basis.script s.session) s.basis.script.nodes) ⊎ StandsIn (replies_in s.session mine) reply.NoMemory
  pub is : deeds ≡ Sends (record { session = s.session; txn = s.number; begin = begin; level = level }) often s.arms ∷ []

-- what a line of the script does
abbrev pub AreDeedsOf : Basis → View → List BodyLine → List Line → Act → List Line → List Deed → Type 0
AreDeedsOf basis view done before (act.Say session text) mine deeds =
    SendsNothing (saying basis view done before session text) mine deeds ⊎ SendsCommit (saying basis view done before session text) mine deeds
AreDeedsOf basis view done before (act.Stop node) mine deeds = deeds ≡ Stops node ∷ []
AreDeedsOf basis view done before (act.Start node) mine deeds = deeds ≡ Starts node ∷ []
AreDeedsOf basis view done before (act.Arm session moment) mine deeds = deeds ≡ []
AreDeedsOf basis view done before act.Barrier mine deeds = deeds ≡ []
AreDeedsOf basis view done before act.Feed mine deeds = deeds ≡ []

-- the nodes as these deeds find them, and leave them
abbrev pub awaiting : List Fall → Peers → Peers
awaiting falls p = record { all = p.all; master = p.master; reigns = p.reigns; falls = falls; told = [] }

abbrev pub behind_deeds : ℕ → List Deed → List Fall → Peers → Peers
behind_deeds n deeds falls p = does_all n deeds (awaiting falls p)

-- nodes that did something told what these lines tell of nodes, and all falls came, which are so many
pub record Tell (after : Peers) (falls : List Fall) (failed : ℕ) (mine : List Line) : Type 0 where
  pub as_many : length falls + failed ≡ faults_in (switches mine)
  pub all_come : after.falls ≡ []
  pub told : after.told ≡ switches mine

-- at the end the nodes tell the tail, and the stores that were read late are sound and fit
pub record EndsOver (n : ℕ) (fs : List Finding) (p : Peers) (report : Report) : Type 0 where
  pub tail : HasTail n p report
  pub late : AreAllFit n (read_late fs p.all)

-- the lines of the script in turn, as in the order of play, over these nodes
abbrev pub InLedTurns : Basis → View → List Finding → Report → List BodyLine → List Line → List EntryLine → Peers → List BodyLine → List Line → List EntryLine → Type 0
InLedTurns basis view fs report done before history p [] lines entries =
    (lines ≡ closing basis before history) × (entries ≡ []) × EndsOver basis.script.nodes fs p report
InLedTurns basis view fs report done before history p (b ∷ bs) lines entries =
    (mine : List Line) × (others : List Line) × (added : List EntryLine) × (later : List EntryLine)
    × (lines ≡ mine ++ others) × (entries ≡ added ++ later)
    × IsTurnOfNodes basis view done before history b.act mine others added
    × (deeds : List Deed) × (falls : List Fall)
    × AreDeedsOf basis view done before b.act mine deeds
    × Tell (behind_deeds basis.script.nodes deeds falls p) falls 0 mine
    × InLedTurns basis view fs report (done ++ b ∷ []) (before ++ mine) (history ++ added) (behind_deeds basis.script.nodes deeds falls p) bs others later

-- the nodes behind the opening
abbrev pub behind_opening : ℕ → List Finding → List Fall → Peers
behind_opening n fs falls = chooses n (gathered fs falls)

pub record IsPlayedOver (basis : Basis) (fs : List Finding) (report : Report) : Type 0 where
  pub may : MayPlay basis.script fs
  -- the nodes that go down before the first line of the script, and the schema's entry where it comes in then
  pub first : List Line
  pub go_down : EachAfter (IsFault basis.script) [] first
  pub opening : List EntryLine
  pub is_opened : IsOpened basis [] [] first opening
  pub rest : List Line
  pub lines_are : report.lines ≡ first ++ rest
  pub later : List EntryLine
  pub entries_are : report.entries ≡ opening ++ later
  -- these are the nodes whose stores failed as they were read, and those that fall at the first choice
  pub falls : List Fall
  pub tell : Tell (behind_opening basis.script.nodes fs falls) falls (faults_in (gathered fs falls).told) first
  pub order : InLedTurns basis (view_of basis report.entries) fs report [] first opening (behind_opening basis.script.nodes fs falls) basis.script.body rest later
