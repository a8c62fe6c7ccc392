use Rattle.log_format.proofs.PartReads.{no_index}
use Rattle.log_format.proofs.tables.KeyDefPart.read.Goals as goal

pub returns-in_default : goal.returns-in_default
returns-in_default c = no_index c.args.bytes.now (rw c.in_default.is at c.in_ok-parts.ensures)
