use Rattle.cluster_masters.proofs.BehindLaws.{behind_base}
use Rattle.cluster_masters.proofs.entries_behind_the_base_keep_their_rule.Goals as goal

pub returns-clause-begins : goal.returns-clause-begins
returns-clause-begins g c = λ n k m h l a legal new hl dur hc low. (behind_base g.R.AppendRule.holds n k m h l a legal new hl dur hc low).0

pub returns-clause-rule : goal.returns-clause-rule
returns-clause-rule g c = λ n k m h l a legal new hl dur hc low. (behind_base g.R.AppendRule.holds n k m h l a legal new hl dur hc low).1
