use Rattle.cluster_entries.proofs.Rules.{entries}
use Rattle.cluster_entries.proofs.entries_keep_their_rule.Goals as goal

pub returns-clause-held : goal.returns-clause-held
returns-clause-held g c = λ n k h legal new. (entries g.R.Rule.holds n h legal new k).log

pub returns-clause-accepted : goal.returns-clause-accepted
returns-clause-accepted g c = λ n k h a legal new m. (entries g.R.Rule.holds n h legal new k).accepts.at a m
