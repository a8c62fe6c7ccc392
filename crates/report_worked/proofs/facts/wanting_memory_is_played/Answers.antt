use Rattle.report_worked.proofs.WantingLemmas.{wanting_is_lawful, wanting_is_in_order}
use Rattle.report_worked.proofs.facts.wanting_memory_is_played.Goals as goal

pub returns : goal.returns
returns c = record { lawful = wanting_is_lawful; order = wanting_is_in_order }
