use Rattle.table_read.proofs.NameLemmas.{keys_named}
use Rattle.table_read.proofs.laws.keys_are_over_their_columns.Goals as goal

pub returns : goal.returns
returns c = keys_named
