use Rattle.log_format.proofs.PartReads.{no_take}
use Rattle.log_format.proofs.records.read_take.Goals as goal

pub returns-in_default : goal.returns-in_default
returns-in_default c = no_take c.args.rest.now (rw c.in_default.is at c.in_ok-parts.ensures)
