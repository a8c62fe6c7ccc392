use Rattle.report_worked.proofs.DownNothingLemmas.{down_at_nothing_is_lawful, down_at_nothing_is_not_in_order}
use Rattle.report_worked.proofs.facts.down_at_nothing_is_not_played.Goals as goal

pub returns : goal.returns
returns c = record { lawful = down_at_nothing_is_lawful; order = down_at_nothing_is_not_in_order }
