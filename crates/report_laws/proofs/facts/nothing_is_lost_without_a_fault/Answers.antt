use Rattle.report_laws.proofs.LawLemmas.{no_loss, no_shortage}
use Rattle.report_laws.proofs.facts.nothing_is_lost_without_a_fault.Goals as goal

pub returns : goal.returns
returns c = record { lost = no_loss; majority = no_shortage }
