use Rattle.log_format.proofs.PartReads.{no_heads}
use Rattle.log_format.proofs.records.read_heads.Goals as goal

pub returns-in_default : goal.returns-in_default
returns-in_default c = no_heads c.args.rest.now (rw c.in_default.is at c.in_ok-parts.ensures)
