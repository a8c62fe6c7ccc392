use Rattle.std.proofs.Common.{◌+◌, refl}
use Rattle.table_store.proofs.ForestLaws.{stands_at, forest_step}
use Rattle.table_store.proofs.RisingLaws.{tree_once}
use Rattle.table_store.proofs.laws.a_change_of_one_tree_keeps_the_others.Goals as goal

pub returns-clause-stands : goal.returns-clause-stands
returns-clause-stands c = λ pages root at owns free own lists list forest o l. stands_at pages root at (root + at) owns free lists own list o l refl forest

pub returns-clause-once : goal.returns-clause-once
returns-clause-once c = λ pages root own list p q tree i j same. (tree_once pages root own list tree).one p q i j same

pub returns-clause-kept : goal.returns-clause-kept
returns-clause-kept c = λ old new root at owns free own lists list after forest o l change.
    forest_step old new root at (root + at) owns free lists own list after o l refl forest change
