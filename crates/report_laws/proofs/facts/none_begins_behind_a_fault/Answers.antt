use Rattle.report_laws.proofs.BeginLaws.{none_begins}
use Rattle.report_laws.proofs.facts.none_begins_behind_a_fault.Goals as goal

pub returns : goal.returns
returns c = record { none = none_begins }
