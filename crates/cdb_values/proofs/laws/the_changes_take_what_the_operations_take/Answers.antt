use Rattle.cdb_values.proofs.ChangeLaws.{take_the_same}
use Rattle.cdb_values.proofs.laws.the_changes_take_what_the_operations_take.Goals as goal

pub returns : goal.returns
returns c = take_the_same
