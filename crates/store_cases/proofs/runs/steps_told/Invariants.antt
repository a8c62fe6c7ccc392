-- the next step may be done
use Rattle.store_cases.specs.Calm.{IsCalm}
use Rattle.store_cases.proofs.runs.steps_told.Given as goal

abbrev pub invariant-steps : goal.invariant-steps
invariant-steps l = IsCalm l.node
