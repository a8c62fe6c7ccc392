use Rattle.election_core.proofs.Keeping.{same_after}
use Rattle.election_core.proofs.decisions.on_message.Goals as goal

pub returns-clause-same : goal.returns-clause-same
returns-clause-same c = same_after c.args.vote.now c.act_on.new.vote c.args.message.now c.act_on.result c.act_on.ensures.changes
