-- The report of a finished run.
use Rattle.std.proofs.Common.{ℕ, ◌≡◌, List, []}
use Rattle.cluster_events.specs.Guards.{IsDone}
use Rattle.cluster_events.specs.Operator.{duty}
use Rattle.cluster_events.specs.Settings.{Setting, lines_to_do}
use Rattle.cluster_reports.specs.Runs.{IsFinished}
use Rattle.cluster_steps.specs.Named.{steps}
use Rattle.cluster_steps.specs.declared.events.Event.{Event}
use Rattle.cluster_steps.proofs.StepLaws.{heed_steps}
use Rattle.cluster_steps.specs.Guards.{AreLegalSteps}

pub finished : (G : Setting) (h : List (ℕ × Event)) → AreLegalSteps G h → (duty (lines_to_do G) (steps G h)).left ≡ [] → ((s : ℕ) → IsDone G (steps G h) s) → IsFinished G (steps G h)
finished G h l none done = record { by_script = heed_steps G h l; operator = none; sessions = done }
