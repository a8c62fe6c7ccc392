use Rattle.report_worked.proofs.FaultWrongLemmas.{begun_behind_is_lawful, begun_behind_is_not_in_order}
use Rattle.report_worked.proofs.facts.begun_behind_is_not_played.Goals as goal

pub returns : goal.returns
returns c = record { lawful = begun_behind_is_lawful; order = begun_behind_is_not_in_order }
