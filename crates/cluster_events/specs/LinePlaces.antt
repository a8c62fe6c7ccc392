-- The places of lines where nodes stop and come up: each line is right behind the lines before it.
use Rattle.std.specs.Prelude.{◌≡◌, ℕ, ◌+◌, ◌≤◌, List, Bool, true, false}
use Rattle.report_laws.specs.Nodes.{downs, is_up}
use Rattle.report_laws.specs.Places.{HasItsCause}
use Rattle.report_text.specs.declared.reports.Line.{Line}
use Rattle.report_text.specs.declared.reports.Line.TheVariants as line
use Rattle.script_form.specs.declared.scripts.Script.{Script}

-- a node goes down: the line has the next number, and by a stop it was up
pub record NodeGoesDown (script : Script) (before : List Line) (count node : ℕ) (fault : Bool) : Type 0 where
  pub counted : count ≡ downs before + 1
  pub of_script : (1 ≤ node) × (node ≤ script.nodes)
  pub was_up : fault ≡ false → is_up node before ≡ true

abbrev pub HasPlaceAmongNodes : Script → List Line → Line → Type 0
HasPlaceAmongNodes script before (line.Session session txn answer) = HasItsCause script before session txn answer
HasPlaceAmongNodes script before (line.Down count node fault) = NodeGoesDown script before count node fault
HasPlaceAmongNodes script before (line.Up node) = is_up node before ≡ false
HasPlaceAmongNodes script before line.Barrier = Unit {0}
HasPlaceAmongNodes script before (line.Fed position) = Unit {0}
