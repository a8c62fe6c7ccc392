use Rattle.history_report.proofs.ToldLaws.{all_told}
use Rattle.history_report.proofs.laws.told_lines_are_those_of_the_history.Goals as goal

pub returns : goal.returns
returns c = λ G sessions h calls legal. (all_told G sessions h calls legal).lines_are
