use Rattle.undo_snapshot.proofs.PutLemmas.{kept_stays, put_found, put_others}
use Rattle.undo_snapshot.proofs.laws.kept_pages_are_found_again.Goals as goal

pub returns-clause-stays : goal.returns-clause-stays
returns-clause-stays c = kept_stays

pub returns-clause-put : goal.returns-clause-put
returns-clause-put c = put_found

pub returns-clause-others : goal.returns-clause-others
returns-clause-others c = put_others
