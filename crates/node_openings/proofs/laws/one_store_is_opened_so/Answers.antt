use Rattle.node_openings.proofs.OneLemmas.{one_plays, one_tells}
use Rattle.node_openings.proofs.laws.one_store_is_opened_so.Goals as goal

pub returns-clause-told : goal.returns-clause-told
returns-clause-told c = λ given s old new w x told. one_tells given s old new w x told

pub returns-clause-played : goal.returns-clause-played
returns-clause-played c = λ given r old new x good. one_plays given r old new x good
