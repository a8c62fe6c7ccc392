use Rattle.page_workspace.proofs.ChainLaws.{free_more, free_less}
use Rattle.page_workspace.proofs.laws.free_pages_are_a_chain.Goals as goal

pub returns-clause-given : goal.returns-clause-given
returns-clause-given c = λ old new id ids free f none off below. free_more old new id ids free f none off below

pub returns-clause-taken : goal.returns-clause-taken
returns-clause-taken c = λ old new id ids free t some. free_less old new id ids free t some
