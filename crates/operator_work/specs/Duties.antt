-- Where the operator is in its lines of the script, by what it knows: which are left, and whether the first of them
-- is ordered.
use Rattle.std.specs.Prelude.{ℕ, ◌≡◌, Bool, List}
use Rattle.cluster_events.specs.Operator.{duty}
use Rattle.cluster_events.specs.Settings.{Setting, lines_to_do}
use Rattle.cluster_steps.specs.Guards.{AreLegalSteps, IsPlan}
use Rattle.cluster_steps.specs.Named.{steps}
use Rattle.cluster_steps.specs.declared.events.Event.{Event}
use Rattle.script_form.specs.declared.scripts.Act.{Act}

pub record IsAt (G : Setting) (h : List (ℕ × Event)) (left : List (ℕ × Act)) (ordered : Bool) : Type 0 where
  pub plan : IsPlan G
  pub legal : AreLegalSteps G h
  pub lines : (duty (lines_to_do G) (steps G h)).left ≡ left
  pub next : (duty (lines_to_do G) (steps G h)).ordered ≡ ordered
