use Rattle.cluster_steps.specs.Named.{world}
use Rattle.session_fronts.proofs.KnownLaws.{agrees, at_node, front_size, longer}
use Rattle.session_fronts.proofs.fronts_are_the_same.Goals as goal

pub returns-clause-size : goal.returns-clause-size
returns-clause-size c = λ G h o known. front_size G (world G h) o known.found

pub returns-clause-at_nodes : goal.returns-clause-at_nodes
returns-clause-at_nodes c = λ G h o k legal known reaches. at_node G h legal o known k reaches

pub returns-clause-durable : goal.returns-clause-durable
returns-clause-durable c = λ G h o g d legal known dur within. agrees G h legal o known g d dur within

pub returns-clause-longer : goal.returns-clause-longer
returns-clause-longer c = λ G h o p legal a b le. longer G h legal o p a b le
