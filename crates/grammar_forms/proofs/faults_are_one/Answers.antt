-- Each clause is the law of that name, at the grammar that the bound brings.
use Rattle.grammar_forms.proofs.Verdicts.{one_fault, no_fault}
use Rattle.grammar_forms.proofs.faults_are_one.Goals as goal

pub returns-clause-one_fault : goal.returns-clause-one_fault
returns-clause-one_fault g c = one_fault g.G.Grammar.spells

pub returns-clause-no_fault : goal.returns-clause-no_fault
returns-clause-no_fault g c = no_fault g.G.Grammar.spells
