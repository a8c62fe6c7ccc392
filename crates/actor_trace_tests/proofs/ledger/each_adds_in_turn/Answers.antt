use Rattle.actor_trace_tests.proofs.Passing.{values, turns}
use Rattle.actor_trace_tests.proofs.ledger.each_adds_in_turn.Goals as goal

pub returns-clause-values : goal.returns-clause-values
returns-clause-values c = values

pub returns-clause-turns : goal.returns-clause-turns
returns-clause-turns c = turns
