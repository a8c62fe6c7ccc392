-- the same request
use Rattle.node_commits.proofs.ledgers.Ledger.commit.Given as goal

abbrev pub ghost-answer : goal.ghost-answer
ghost-answer g a = g.sent
