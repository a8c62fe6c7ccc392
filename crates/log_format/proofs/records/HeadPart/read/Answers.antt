use Rattle.log_format.proofs.PartReads.{no_head}
use Rattle.log_format.proofs.records.HeadPart.read.Goals as goal

pub returns-in_default : goal.returns-in_default
returns-in_default c = no_head c.args.bytes.now (rw c.in_default.is at c.in_ok-parts.ensures)
