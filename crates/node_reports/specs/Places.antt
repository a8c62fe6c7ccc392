-- The places of lines, on one to seven nodes: each line is right behind the lines before it.
--
-- A line that a node went down has the next number of these lines. Where it tells of a stop the node was up; by a fault it may go
-- down once more, as its store fails at a start. A node comes up that is down. Losses and missing majorities have their causes
-- as on one node. Where barriers and feeds stand says the operator (`Operator.antt`).
use Rattle.std.specs.Prelude.{◌≡◌, ℕ, ◌+◌, ◌≤◌, List, Bool, true, false}
use Rattle.script_form.specs.declared.scripts.Script.{Script}
use Rattle.report_laws.specs.Nodes.{downs, is_up}
use Rattle.report_laws.specs.Places.{HasItsCause}
use Rattle.report_text.specs.declared.reports.Line.{Line}
use Rattle.report_text.specs.declared.reports.Line.TheVariants as line

-- a node of the script goes down, and the line has the next number
pub record FallsThere (script : Script) (before : List Line) (count node : ℕ) (fault : Bool) : Type 0 where
  pub counted : count ≡ downs before + 1
  pub of_script : (1 ≤ node) × (node ≤ script.nodes)
  pub was_up : fault ≡ false → is_up node before ≡ true

-- a node of the script that is down comes up
pub record ComesUp (script : Script) (before : List Line) (node : ℕ) : Type 0 where
  pub of_script : (1 ≤ node) × (node ≤ script.nodes)
  pub was_down : is_up node before ≡ false

-- a line has its place behind the lines before it
abbrev pub HasPlace : Script → List Line → Line → Type 0
HasPlace script before (line.Session session txn answer) = HasItsCause script before session txn answer
HasPlace script before (line.Down count node fault) = FallsThere script before count node fault
HasPlace script before (line.Up node) = ComesUp script before node
HasPlace script before line.Barrier = Unit {0}
HasPlace script before (line.Fed position) = Unit {0}
