use Rattle.log_format.proofs.PartReads.{no_swap}
use Rattle.log_format.proofs.records.read_swap.Goals as goal

pub returns-in_default : goal.returns-in_default
returns-in_default c = no_swap c.args.rest.now (rw c.in_default.is at c.in_ok-parts.ensures)
