use Rattle.block_processor.proofs.ConflictLaws.{none_found, one_found}
use Rattle.block_processor.proofs.laws.conflicts_are_first.Goals as goal

pub returns-clause-none : goal.returns-clause-none
returns-clause-none c = none_found

pub returns-clause-one : goal.returns-clause-one
returns-clause-one c = one_found
