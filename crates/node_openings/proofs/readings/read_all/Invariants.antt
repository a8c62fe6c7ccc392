use Rattle.node_openings.proofs.ReadLemmas.{Halfway}
use Rattle.node_openings.proofs.readings.read_all.Given as goal

abbrev pub invariant-logs : goal.invariant-logs
invariant-logs g l = Halfway l.fn.logs.items l.log-items l.found.items l.log-index
