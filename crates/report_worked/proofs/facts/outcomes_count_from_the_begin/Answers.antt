use Rattle.report_worked.proofs.WrongEntryLemmas.{conflict_at_begin_is_refused, select_behind_is_refused}
use Rattle.report_worked.proofs.facts.outcomes_count_from_the_begin.Goals as goal

pub returns : goal.returns
returns c = record { conflict_at_begin = conflict_at_begin_is_refused; select_behind = select_behind_is_refused }
