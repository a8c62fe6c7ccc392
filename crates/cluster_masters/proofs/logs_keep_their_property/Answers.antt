use Rattle.cluster_masters.proofs.WholeLogs.{wholes, fronts}
use Rattle.cluster_masters.proofs.logs_keep_their_property.Goals as goal

pub returns-clause-held : goal.returns-clause-held
returns-clause-held g c = λ n k h none legal all. (wholes g.R.Property.holds n h none legal all k).own

pub returns-clause-accepted : goal.returns-clause-accepted
returns-clause-accepted g c = λ n k h x none legal all m. (wholes g.R.Property.holds n h none legal all k).accepts.at x m

pub returns-clause-fronts : goal.returns-clause-fronts
returns-clause-fronts g c = λ n m k h a x xs none legal all ha dur hc low p long. fronts g.R.Property.holds n h none legal all m a ha dur k x hc low xs p long
