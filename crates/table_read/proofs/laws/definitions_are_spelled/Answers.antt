use Rattle.table_read.proofs.ReadingLemmas.{is_spelled, is_found}
use Rattle.table_read.proofs.laws.definitions_are_spelled.Goals as goal

pub returns-clause-spelled : goal.returns-clause-spelled
returns-clause-spelled c = is_spelled

pub returns-clause-found : goal.returns-clause-found
returns-clause-found c = is_found
