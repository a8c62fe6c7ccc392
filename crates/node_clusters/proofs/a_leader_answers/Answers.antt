use Rattle.node_clusters.proofs.EntryLaws.{enters_so, settles_so}
use Rattle.node_clusters.proofs.a_leader_answers.Goals as goal

pub returns-clause-appends : goal.returns-clause-appends
returns-clause-appends c = enters_so

pub returns-clause-settles : goal.returns-clause-settles
returns-clause-settles c = settles_so
