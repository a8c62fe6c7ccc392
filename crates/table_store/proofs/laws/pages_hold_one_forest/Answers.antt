use Rattle.table_store.proofs.ForestLaws.{one_forest}
use Rattle.table_store.proofs.laws.pages_hold_one_forest.Goals as goal

pub returns-clause-pages : goal.returns-clause-pages
returns-clause-pages c = λ pages root owns others lists more long a b. (one_forest pages root owns others lists more long a b).0

pub returns-clause-lists : goal.returns-clause-lists
returns-clause-lists c = λ pages root owns others lists more long a b. (one_forest pages root owns others lists more long a b).1
