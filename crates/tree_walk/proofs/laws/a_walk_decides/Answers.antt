use Rattle.tree_walk.proofs.WrittenLaws.{twice_tree, no_tree}
use Rattle.tree_walk.proofs.laws.a_walk_decides.Goals as goal

pub returns-clause-twice : goal.returns-clause-twice
returns-clause-twice c = twice_tree

pub returns-clause-none : goal.returns-clause-none
returns-clause-none c = no_tree
