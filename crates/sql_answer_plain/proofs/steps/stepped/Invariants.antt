-- the value so far, with the steps that are left, is that of all
use Rattle.std.proofs.Common.{◌≡◌, [], ◌∷◌, length}
use Rattle.std.specs.Prelude.{Some}
use Rattle.sql_answer.specs.Writes.{stepped}
use Rattle.sql_answer_plain.proofs.steps.stepped.Given as goal

abbrev pub invariant-steps : goal.invariant-steps
invariant-steps l = stepped (l.row ∷ []) (Some l.value) l.rest ≡ stepped (l.row ∷ []) (Some l.initial.value) l.steps

abbrev pub decreases-steps : goal.decreases-steps
decreases-steps l = length l.rest
