use Rattle.actor_trace_tests.proofs.Numbered.{counts}
use Rattle.actor_trace_tests.proofs.counters.each_counts.Goals as goal

pub returns : goal.returns
returns c = counts
