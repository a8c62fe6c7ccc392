use Rattle.cluster_steps.specs.Named.{world}
use Rattle.session_fronts.proofs.RoundLaws.{asked_last, confirmed_by_leader, confirmed_by_node, confirmed_none, confirmed_stays, counted, last_confirm, last_probe, probed_stays}
use Rattle.session_fronts.proofs.counted_begins_can_begin.Goals as goal

pub returns-clause-asked : goal.returns-clause-asked
returns-clause-asked c = asked_last

pub returns-clause-probed : goal.returns-clause-probed
returns-clause-probed c = last_probe

pub returns-clause-confirmed : goal.returns-clause-confirmed
returns-clause-confirmed c = last_confirm

pub returns-clause-probed_stays : goal.returns-clause-probed_stays
returns-clause-probed_stays c = probed_stays

pub returns-clause-confirmed_stays : goal.returns-clause-confirmed_stays
returns-clause-confirmed_stays c = confirmed_stays

pub returns-clause-none : goal.returns-clause-none
returns-clause-none c = λ G h ask generation leader. confirmed_none (world G h) ask generation leader

pub returns-clause-leader : goal.returns-clause-leader
returns-clause-leader c = λ G h ask generation leader bits a. confirmed_by_leader (world G h) ask generation leader bits a

pub returns-clause-more : goal.returns-clause-more
returns-clause-more c = λ G h ask generation leader bits k a told. confirmed_by_node (world G h) ask generation leader bits k a told

pub returns-clause-begins : goal.returns-clause-begins
returns-clause-begins c = λ G h ask position generation leader bits probed confirmed many. counted G.nodes (world G h) ask position generation leader bits probed confirmed many
