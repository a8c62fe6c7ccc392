use Rattle.btree_index.proofs.TreeLaws.{one_list}
use Rattle.btree_index.proofs.laws.trees_have_one_list.Goals as goal

pub returns : goal.returns
returns c = record { one = one_list }
