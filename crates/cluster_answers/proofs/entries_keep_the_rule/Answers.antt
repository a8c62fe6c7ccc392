use Rattle.cluster_answers.proofs.EntryLaws.{rules}
use Rattle.cluster_answers.proofs.entries_keep_the_rule.Goals as goal

pub returns-clause-held : goal.returns-clause-held
returns-clause-held c = λ G h k xs e legal p. (rules G h legal k).log xs e p

pub returns-clause-accepted : goal.returns-clause-accepted
returns-clause-accepted c = λ G h k c xs e legal m p. (rules G h legal k).accepts.at c m xs e p
