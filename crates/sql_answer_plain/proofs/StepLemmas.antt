-- SET: what has left 64 bits stays so.
use Rattle.std.proofs.Common.{◌≡◌, List, [], ◌∷◌, refl}
use Rattle.std.specs.Prelude.{None}
use Rattle.cdb_values.specs.declared.values.Value.{Value}
use Rattle.sql_bind.specs.declared.types.BoundStep.{BoundStep}
use Rattle.sql_answer.specs.Writes.{stepped}

pub stays_missing : (old : List (List Value)) (steps : List BoundStep) → stepped old None steps ≡ None
stays_missing old [] = refl
stays_missing old (step ∷ steps) = stays_missing old steps
