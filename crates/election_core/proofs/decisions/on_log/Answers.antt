use Rattle.election_core.proofs.Refusals.{no_adopt, no_ship}
use Rattle.election_core.proofs.decisions.on_log.Goals as goal

pub returns-in-None-clause-adopt : goal.returns-in-None-clause-adopt
returns-in-None-clause-adopt c = λ from. no_adopt c.args.vote.now from c.args.generation c.args.length c.in-None.ensures.none

pub returns-in-None-clause-ship : goal.returns-in-None-clause-ship
returns-in-None-clause-ship c = λ from. no_ship c.args.vote.now from c.args.generation c.args.length c.in-None.ensures.none
