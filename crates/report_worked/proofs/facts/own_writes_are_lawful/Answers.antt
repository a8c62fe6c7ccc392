use Rattle.report_worked.proofs.OwnWritesLemmas.{own_writes_is_lawful, own_writes_is_in_order}
use Rattle.report_worked.proofs.facts.own_writes_are_lawful.Goals as goal

pub returns : goal.returns
returns c = record { lawful = own_writes_is_lawful; order = own_writes_is_in_order }
