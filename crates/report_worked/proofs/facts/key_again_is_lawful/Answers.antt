use Rattle.report_worked.proofs.KeyAgainLemmas.{key_again_is_lawful, key_again_is_in_order}
use Rattle.report_worked.proofs.facts.key_again_is_lawful.Goals as goal

pub returns : goal.returns
returns c = record { lawful = key_again_is_lawful; order = key_again_is_in_order }
