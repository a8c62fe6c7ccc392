use Rattle.report_worked.proofs.AheadLemmas.{committed_ahead_is_not_in_order, conflict_ahead_is_lawful, conflict_ahead_is_not_in_order, duplicate_ahead_is_lawful, duplicate_ahead_is_not_in_order}
use Rattle.report_worked.proofs.facts.decisions_ahead_are_not_played.Goals as goal

pub returns : goal.returns
returns c = record {
  commit = committed_ahead_is_not_in_order;
  conflict = conflict_ahead_is_lawful;
  conflict_order = conflict_ahead_is_not_in_order;
  duplicate = duplicate_ahead_is_lawful;
  duplicate_order = duplicate_ahead_is_not_in_order;
}
