use Rattle.cluster_facts.proofs.LongestLog.{longest}
use Rattle.cluster_facts.proofs.leaders_have_the_longest_log.Goals as goal

pub returns : goal.returns
returns g c = longest
