use Rattle.btree_index.proofs.prunes.+look_below.Given as goal

abbrev pub decreases-look_below : goal.decreases-look_below
decreases-look_below g l = l.turns
