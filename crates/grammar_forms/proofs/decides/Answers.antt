-- Each clause is the law of that name, at the grammar that the bound brings.
use Rattle.grammar_forms.proofs.Verdicts.{is_read, was_spelled, fault_at, one_value}
use Rattle.grammar_forms.proofs.decides.Goals as goal

pub returns-clause-read : goal.returns-clause-read
returns-clause-read g c = λ e. is_read g.G.Grammar.kind g.G.Grammar.spells g.G.Grammar.reads e.3

pub returns-clause-spelled : goal.returns-clause-spelled
returns-clause-spelled g c = λ e. was_spelled g.G.Grammar.kind g.G.Grammar.spells g.G.Grammar.reads e.3

pub returns-clause-refused : goal.returns-clause-refused
returns-clause-refused g c = λ e. fault_at g.G.Grammar.kind g.G.Grammar.spells g.G.Grammar.reads e.3

pub returns-clause-one_value : goal.returns-clause-one_value
returns-clause-one_value g c = λ e. one_value g.G.Grammar.kind g.G.Grammar.spells g.G.Grammar.reads e.3
