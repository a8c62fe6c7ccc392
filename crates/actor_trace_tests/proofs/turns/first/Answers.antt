use Rattle.actor_trace_tests.proofs.Passing.{gives_first}
use Rattle.actor_trace_tests.proofs.turns.first.Goals as goal

pub invariant_of-result : goal.invariant_of-result
invariant_of-result g c = record { given = gives_first c.note-note.result }
