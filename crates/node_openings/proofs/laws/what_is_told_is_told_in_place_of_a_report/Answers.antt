use Rattle.node_openings.proofs.ReportLemmas.{line_of_place}
use Rattle.node_openings.proofs.laws.what_is_told_is_told_in_place_of_a_report.Goals as goal

pub returns-clause-line : goal.returns-clause-line
returns-clause-line c = λ script fs place told. line_of_place script fs place told
