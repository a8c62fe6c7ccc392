use Rattle.btree_index.proofs.frees.+free_from.Given as goal

abbrev pub decreases-free_from : goal.decreases-free_from
decreases-free_from g l = l.turns
