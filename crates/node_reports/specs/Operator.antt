-- The operator: the lines of the script that stop and start nodes, barriers and feeds, and the arms of sessions.
--
-- The operator's lines have places in the report, in their order. What the operator tells between the place of the line before
-- and its own is that line's: that the node was stopped or came up, a barrier, a feed. Behind a stop the node is down; behind a
-- start it is up, or right before its place the start failed by a fault. Before a barrier each session was told all of its
-- lines of the script that stand before it, and no more.
--
-- A node that is stopped otherwise is stopped by an arm, each by one of its own. That line stands among those of the session's
-- next line behind the arm: behind all that the session was told before, and before all that it is told later; and on the side
-- of each barrier on which that next line stands in the script.
use Rattle.std.specs.Prelude.{◌≡◌, ℕ, ◌+◌, ◌&&◌, ◌++◌, ◌∷◌, [], List, Bool, true, false, not, Option, Some, None, length, if◌then◌else◌, ◌⊎◌}
use Rattle.cdb_values.specs.declared.replies.Reply.{Reply}
use Rattle.report_laws.specs.History.{Basis}
use Rattle.report_laws.specs.Nodes.{is_up}
use Rattle.report_laws.specs.Play.{number_told}
use Rattle.report_laws.specs.Told.{told, numbered, Numbered}
use Rattle.report_laws.specs.View.{View}
use Rattle.report_laws.specs.Work.{place_after, said}
use Rattle.report_text.specs.declared.reports.Line.{Line}
use Rattle.report_text.specs.declared.reports.Line.TheVariants as line
use Rattle.script_form.specs.declared.scripts.Act.{Act}
use Rattle.script_form.specs.declared.scripts.Act.TheVariants as act
use Rattle.script_form.specs.declared.scripts.BodyLine.{BodyLine}
use Rattle.script_form.specs.declared.scripts.Moment.{Moment}
use Rattle.node_reports.specs.Fed.{IsFed, IsFedAtLast}
use Rattle.node_reports.specs.Pieces.{AreOf, IsItsPiece}
use Rattle.node_reports.specs.Site.{is_some}

-- whether a line is the operator's, where by the number of a down line it is known whether an arm is its cause, and which
abbrev pub is_operators : (ℕ → Option ℕ) → Line → Bool
is_operators arms (line.Session name txn answer) = false
is_operators arms (line.Down count node fault) = not fault && not (is_some (arms count))
is_operators arms (line.Up node) = true
is_operators arms line.Barrier = true
is_operators arms (line.Fed position) = true

-- the operator's among these lines
abbrev pub operators : (ℕ → Option ℕ) → List Line → List Line
operators arms [] = []
operators arms (l ∷ ls) = if is_operators arms l then l ∷ operators arms ls else operators arms ls

-- how many barriers stand in a report and in a script
abbrev pub barriers : List Line → ℕ
barriers [] = 0
barriers (line.Barrier ∷ ls) = barriers ls + 1
barriers (_ ∷ ls) = barriers ls

abbrev pub is_barrier : Act → Bool
is_barrier act.Barrier = true
is_barrier _ = false

abbrev pub barrier_lines : List BodyLine → ℕ
barrier_lines [] = 0
barrier_lines (b ∷ bs) = barrier_lines bs + (if is_barrier b.act then 1 else 0)

-- a stop: behind these lines, of which the last ones are its own, the node is down
pub record StopsThere (arms : ℕ → Option ℕ) (before mine : List Line) (node : ℕ) : Type 0 where
  pub told : (operators arms mine ≡ []) ⊎ ((count : ℕ) × (operators arms mine ≡ line.Down count node false ∷ []))
  pub is_down : is_up node (before ++ mine) ≡ false

-- a start: the node is up there, or its start failed by a fault right before
pub record StartsThere (arms : ℕ → Option ℕ) (before mine : List Line) (node : ℕ) : Type 0 where
  pub told : (operators arms mine ≡ []) ⊎ (operators arms mine ≡ line.Up node ∷ [])
  pub there : (is_up node (before ++ mine) ≡ true) ⊎ ((front : List Line) × (count : ℕ) × (mine ≡ front ++ line.Down count node true ∷ []))

-- a barrier: before it all lines of the script before it are done, and none behind it
pub record BarsThere (basis : Basis) (arms : ℕ → Option ℕ) (done : List BodyLine) (before mine : List Line) : Type 0 where
  pub front : List Line
  pub says : mine ≡ front ++ line.Barrier ∷ []
  pub alone : operators arms front ≡ []
  pub all_done : (name : List ℕ) → AreOf basis.language name done (told name (before ++ front))

-- a feed
pub record FeedsThere (basis : Basis) (view : View) (arms : ℕ → Option ℕ) (before mine : List Line) : Type 0 where
  pub front : List Line
  pub position : ℕ
  pub says : mine ≡ front ++ line.Fed position ∷ []
  pub alone : operators arms front ≡ []
  pub right : IsFed basis view (before ++ front) position

-- a line of the script, behind the script's lines `done`, has its place behind the lines `mine`, which stand behind the place of
-- the line before; a line of a session has none of its own here
abbrev pub IsHeeded : Basis → View → (ℕ → Option ℕ) → List BodyLine → List Line → Act → List Line → Type 0
IsHeeded basis view arms done before (act.Say session text) mine = mine ≡ []
IsHeeded basis view arms done before (act.Stop node) mine = StopsThere arms before mine node
IsHeeded basis view arms done before (act.Start node) mine = StartsThere arms before mine node
IsHeeded basis view arms done before (act.Arm session moment) mine = mine ≡ []
IsHeeded basis view arms done before act.Barrier mine = BarsThere basis arms done before mine
IsHeeded basis view arms done before act.Feed mine = FeedsThere basis view arms before mine

-- the feed at the end, where a table is watched: behind it no session is told anything
pub record FeedsAtLast (basis : Basis) (view : View) (arms : ℕ → Option ℕ) (before rest : List Line) : Type 0 where
  pub front : List Line
  pub position : ℕ
  pub back : List Line
  pub says : rest ≡ front ++ line.Fed position ∷ back
  pub alone : operators arms front ≡ []
  pub last : operators arms back ≡ []
  pub quiet : (name : List ℕ) → told name back ≡ []
  pub right : IsFedAtLast basis view (before ++ front) position

-- what the operator tells behind the last line of the script
abbrev pub Closes : Basis → View → (ℕ → Option ℕ) → List ℕ → List Line → List Line → Type 0
Closes basis view arms [] before rest = operators arms rest ≡ []
Closes basis view arms (watched ∷ more) before rest = FeedsAtLast basis view arms before rest

-- these lines of the script have their places, one after the other
abbrev pub AreHeeded : Basis → View → (ℕ → Option ℕ) → List BodyLine → List BodyLine → List Line → List Line → Type 0
AreHeeded basis view arms done [] before rest = Closes basis view arms basis.script.watches before rest
AreHeeded basis view arms done (b ∷ bs) before rest =
    (mine : List Line) × (later : List Line) × (rest ≡ mine ++ later) × IsHeeded basis view arms done before b.act mine
    × AreHeeded basis view arms (done ++ b ∷ []) bs (before ++ mine) later

-- a line of the report between these two parts stands during the next line of an arm's session; the arm is that place of the
-- script's lines, counted from 0
pub record IsArmed (basis : Basis) (before after : List Line) (place : ℕ) : Type 0 where
  pub done : List BodyLine
  pub arm : BodyLine
  pub middle : List BodyLine
  pub next : BodyLine
  pub later : List BodyLine
  pub stands : basis.script.body ≡ done ++ arm ∷ (middle ++ next ∷ later)
  pub is_place : place ≡ length done
  pub session : List ℕ
  pub moment : Moment
  pub is_arm : arm.act ≡ act.Arm session moment
  pub text : List ℕ
  pub is_next : next.act ≡ act.Say session text
  pub none_between : said session middle ≡ []
  pub earlier : List Numbered
  pub part : List Numbered
  pub told_before : told session before ≡ earlier ++ part
  pub all_earlier : AreOf basis.language session done earlier
  pub left : List Numbered
  pub others : List Numbered
  pub told_after : told session after ≡ left ++ others
  pub mine : List Reply
  pub its_piece : part ++ left ≡ numbered (number_told basis.language (place_after basis.language session done) text) mine
  pub is_piece : IsItsPiece basis.language earlier (place_after basis.language session done) text mine
  pub side : barriers before ≡ barrier_lines done + barrier_lines middle

-- each line that a node was stopped by an arm has its arm
abbrev pub AreArmed : Basis → (ℕ → Option ℕ) → List Line → Type 0
AreArmed basis arms lines =
    (before : List Line) (after : List Line) (count node place : ℕ) → lines ≡ before ++ line.Down count node false ∷ after → arms count ≡ Some place → IsArmed basis before after place

pub record Operates (basis : Basis) (view : View) (lines : List Line) : Type 0 where
  -- by the number of a down line, the place of the arm by which the node was stopped
  pub arms : ℕ → Option ℕ
  pub armed : AreArmed basis arms lines
  pub apart : (count other place : ℕ) → arms count ≡ Some place → arms other ≡ Some place → count ≡ other
  pub heeded : AreHeeded basis view arms [] basis.script.body [] lines
