use Rattle.kept_log.proofs.KeptLemmas.{stopped_same}
use Rattle.kept_log.proofs.places.stopped.Goals as goal

pub returns-clause-is : goal.returns-clause-is
returns-clause-is g c =
    stopped_same c.args.log c.promised-promised.result c.accepted-accepted.result c.stop-log.result.0 c.stop-log.result.1
    c.promised-promised.ensures.promised c.accepted-accepted.ensures.accepted c.stop-log.ensures.entries c.stop-log.ensures.node c.stop-log.ensures.cluster c.stop-log.ensures.calm
