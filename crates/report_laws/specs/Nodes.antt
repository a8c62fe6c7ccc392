-- Which nodes are up at a place of a report, by the lines before it.
--
-- A node is up at first. A line that it went down or came up says otherwise from there on. What is counted
-- are the nodes of a script, which are numbered from 1.
use Rattle.std.specs.Prelude.{◌≡◌, ℕ, zero, suc, ◌+◌, ◌*◌, ◌==◌, ◌∷◌, ◌&&◌, [], List, Bool, true, false, Option, Some, None, if◌then◌else◌, leb}
use Rattle.report_text.specs.declared.reports.Line.{Line}
use Rattle.report_text.specs.declared.reports.Line.TheVariants as line

-- how many lines tell that a node went down
abbrev pub downs : List Line → ℕ
downs [] = 0
downs (line.Session name txn answer ∷ ls) = downs ls
downs (line.Down count node fault ∷ ls) = downs ls + 1
downs (line.Up node ∷ ls) = downs ls
downs (line.Barrier ∷ ls) = downs ls
downs (line.Fed position ∷ ls) = downs ls

-- the first line tells that the one node of a script went down, by a fault
abbrev pub BeginsDown : List Line → Type 0
BeginsDown lines = (rest : List Line) × (lines ≡ line.Down 1 1 true ∷ rest)

-- whether a node is up behind a line, by whether it was up before it
abbrev pub up_after : ℕ → Bool → Line → Bool
up_after node was (line.Session name txn answer) = was
up_after node was (line.Down count other fault) = if other == node then false else was
up_after node was (line.Up other) = if other == node then true else was
up_after node was line.Barrier = was
up_after node was (line.Fed position) = was

abbrev pub up_from : ℕ → Bool → List Line → Bool
up_from node was [] = was
up_from node was (l ∷ ls) = up_from node (up_after node was l) ls

-- whether a node is up behind these lines
abbrev pub is_up : ℕ → List Line → Bool
is_up node lines = up_from node true lines

-- how many of the nodes 1 to n are up behind these lines
abbrev pub up_count : ℕ → List Line → ℕ
up_count zero lines = 0
up_count (suc n) lines = up_count n lines + (if is_up (suc n) lines then 1 else 0)

-- whether there are nodes and no majority of them is up behind these lines
abbrev pub are_few : ℕ → List Line → Bool
are_few n lines = leb 1 n && leb (2 * up_count n lines) n

-- the number of the first of these lines that tells that a node went down
abbrev pub first_down : ℕ → List Line → Option ℕ
first_down node [] = None
first_down node (line.Session name txn answer ∷ ls) = first_down node ls
first_down node (line.Down count other fault ∷ ls) = if other == node then Some count else first_down node ls
first_down node (line.Up other ∷ ls) = first_down node ls
first_down node (line.Barrier ∷ ls) = first_down node ls
first_down node (line.Fed position ∷ ls) = first_down node ls
