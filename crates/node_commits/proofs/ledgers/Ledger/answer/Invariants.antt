-- over the rows at the begin of the request
use Rattle.node_commits.specs.Asked.{ground_of}
use Rattle.node_commits.proofs.ledgers.Ledger.answer.Given as goal

abbrev pub ghost-decided : goal.ghost-decided
ghost-decided g a = ground_of g.J.Plan.setting a.node.now.actor.seen a.node.now.vote.node g.sent
