use Rattle.std.proofs.Common.{refl}
use Rattle.report_worked.proofs.AllKeyLemmas.{all_is_no_key}
use Rattle.report_worked.proofs.facts.keys_are_not_called_all.Goals as goal

pub returns : goal.returns
returns c = record { refused = all_is_no_key; alike = refl }
