use Rattle.block_processor.proofs.ChangedLaws.{none_used, one_used}
use Rattle.block_processor.proofs.ChangedLemmas.{conflict_changed}
use Rattle.block_processor.proofs.laws.changes_tell_conflicts.Goals as goal

pub returns-clause-same : goal.returns-clause-same
returns-clause-same c = conflict_changed

pub returns-clause-none : goal.returns-clause-none
returns-clause-none c = λ tables begin changed used. none_used tables used begin changed

pub returns-clause-one : goal.returns-clause-one
returns-clause-one c = λ tables begin changed used. one_used tables used begin changed
