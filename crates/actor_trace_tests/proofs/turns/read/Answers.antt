use Rattle.actor_trace_tests.proofs.Passing.{gives_begins}
use Rattle.actor_trace_tests.proofs.turns.read.Goals as goal

pub step-requires-clause-enabled : goal.step-requires-clause-enabled
step-requires-clause-enabled g c = (c.args.turn.to, gives_begins _ _ c.args.turn.value c.args.turn.to c.meet.ensures.note c.args.turn.given)
