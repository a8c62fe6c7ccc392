-- the same ground
use Rattle.node_commits.proofs.commits.decided.Given as goal

abbrev pub ghost-decide : goal.ghost-decide
ghost-decide g a = g.footing
