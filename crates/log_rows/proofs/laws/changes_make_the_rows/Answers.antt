use Rattle.log_rows.proofs.RowLemmas.{changes_make}
use Rattle.log_rows.proofs.laws.changes_make_the_rows.Goals as goal

pub returns : goal.returns
returns c = changes_make
