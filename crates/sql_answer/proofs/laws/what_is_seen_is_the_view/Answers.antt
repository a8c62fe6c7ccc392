use Rattle.sql_answer.proofs.SeenLemmas.{seen_is_view}
use Rattle.sql_answer.proofs.laws.what_is_seen_is_the_view.Goals as goal

pub returns : goal.returns
returns c = seen_is_view
