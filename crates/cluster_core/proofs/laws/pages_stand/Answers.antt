use Rattle.cluster_core.proofs.BaseLaws.{node_stands, stand_from}
use Rattle.cluster_core.proofs.laws.pages_stand.Goals as goal

pub returns-clause-held : goal.returns-clause-held
returns-clause-held c = λ G h k legal. node_stands G h legal k

pub returns-clause-from_the_base : goal.returns-clause-from_the_base
returns-clause-from_the_base c = λ G h m k a l legal ha dur hc low. stand_from G h legal m k a l ha dur hc low
