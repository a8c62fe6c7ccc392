use Rattle.session_outcomes.proofs.SettledLaws.{last_settled, refused_by}
use Rattle.session_outcomes.proofs.refusals_are_told.Goals as goal

pub returns-clause-told : goal.returns-clause-told
returns-clause-told c = λ G h i id d told is ends. last_settled G h i id d told is ends

pub returns-clause-refused : goal.returns-clause-refused
returns-clause-refused c = refused_by
