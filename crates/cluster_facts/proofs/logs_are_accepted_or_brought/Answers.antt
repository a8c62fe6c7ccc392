use Rattle.cluster_facts.proofs.SourceLaws.{had}
use Rattle.cluster_facts.proofs.logs_are_accepted_or_brought.Goals as goal

pub returns : goal.returns
returns g c = had
