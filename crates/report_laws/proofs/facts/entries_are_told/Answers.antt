use Rattle.report_laws.proofs.LawLemmas.{entries_told, told_together}
use Rattle.report_laws.proofs.facts.entries_are_told.Goals as goal

pub returns : goal.returns
returns c = record { told = entries_told; together = told_together }
