use Rattle.cdb_values.proofs.ChangeLaws.{rise, next_after}
use Rattle.cdb_values.proofs.laws.genids_rise.Goals as goal

pub returns-clause-rise : goal.returns-clause-rise
returns-clause-rise c = rise

pub returns-clause-next : goal.returns-clause-next
returns-clause-next c = next_after
