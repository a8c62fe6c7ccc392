use Rattle.cluster_masters.proofs.Bases.{at_least_one, some_founded, at_least_base}
use Rattle.cluster_masters.proofs.begins_reach_the_base.Goals as goal

pub returns-clause-one : goal.returns-clause-one
returns-clause-one g c = at_least_one

pub returns-clause-founded : goal.returns-clause-founded
returns-clause-founded g c = some_founded

pub returns-clause-base : goal.returns-clause-base
returns-clause-base g c = at_least_base
