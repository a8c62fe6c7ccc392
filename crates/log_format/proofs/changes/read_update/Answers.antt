use Rattle.log_format.proofs.PartReads.{no_update}
use Rattle.log_format.proofs.changes.read_update.Goals as goal

pub returns-in_default : goal.returns-in_default
returns-in_default c = no_update c.args.rest.now (rw c.in_default.is at c.in_ok-parts.ensures)
