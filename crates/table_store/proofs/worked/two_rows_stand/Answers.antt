use Rattle.table_store.proofs.WorkedLemmas.{two_rows}
use Rattle.table_store.proofs.worked.two_rows_stand.Goals as goal

pub returns : goal.returns
returns c = two_rows
