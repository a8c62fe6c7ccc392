use Rattle.node_clusters.proofs.AloneLaws.{book_alone_stays, passes_alone, stays_alone}
use Rattle.node_clusters.proofs.one_node_acts.Goals as goal

pub returns-clause-passes : goal.returns-clause-passes
returns-clause-passes c = passes_alone

pub returns-clause-stays : goal.returns-clause-stays
returns-clause-stays c = stays_alone

pub returns-clause-book : goal.returns-clause-book
returns-clause-book c = book_alone_stays
