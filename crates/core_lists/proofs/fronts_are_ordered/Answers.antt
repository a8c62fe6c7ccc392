use Rattle.core_lists.proofs.Fronts.{front_trans, front_length, front_same}
use Rattle.core_lists.proofs.fronts_are_ordered.Goals as goal

pub returns-clause-front : goal.returns-clause-front
returns-clause-front g c = λ xs ys zs p q. front_trans p q

pub returns-clause-length : goal.returns-clause-length
returns-clause-length g c = λ xs ys p. front_length p

pub returns-clause-whole : goal.returns-clause-whole
returns-clause-whole g c = λ xs ys p h. front_same p h
