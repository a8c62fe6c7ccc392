-- the next step may be done
use Rattle.kept_cases.specs.Placed.{IsPlaced}
use Rattle.kept_cases.proofs.runs.steps_told.Given as goal

abbrev pub invariant-steps : goal.invariant-steps
invariant-steps l = IsPlaced l.place
