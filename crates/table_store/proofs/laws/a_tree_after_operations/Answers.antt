use Rattle.table_store.proofs.OperationLemmas.{tree_after}
use Rattle.table_store.proofs.laws.a_tree_after_operations.Goals as goal

pub returns-clause-listed : goal.returns-clause-listed
returns-clause-listed c = λ pages root table own list after key rows ops tree lists are known able put.
    (tree_after pages root table own list key rows ops tree lists are known able).listed after put

pub returns-clause-kept : goal.returns-clause-kept
returns-clause-kept c = λ pages root table own list after key rows ops tree lists are known able put.
    (tree_after pages root table own list key rows ops tree lists are known able).kept after put

pub returns-clause-broken : goal.returns-clause-broken
returns-clause-broken c = λ pages root table own list key rows ops tree lists are known able none.
    (tree_after pages root table own list key rows ops tree lists are known able).broken none
