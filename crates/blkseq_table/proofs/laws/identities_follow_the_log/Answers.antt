use Rattle.blkseq_table.proofs.LogLemmas.{of_stands, of_apart, of_more, of_below, of_first}
use Rattle.blkseq_table.proofs.laws.identities_follow_the_log.Goals as goal

pub returns-clause-stands : goal.returns-clause-stands
returns-clause-stands c = of_stands

pub returns-clause-apart : goal.returns-clause-apart
returns-clause-apart c = of_apart

pub returns-clause-more : goal.returns-clause-more
returns-clause-more c = of_more

pub returns-clause-below : goal.returns-clause-below
returns-clause-below c = of_below

pub returns-clause-first : goal.returns-clause-first
returns-clause-first c = of_first
