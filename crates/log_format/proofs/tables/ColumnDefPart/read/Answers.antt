use Rattle.log_format.proofs.PartReads.{no_column}
use Rattle.log_format.proofs.tables.ColumnDefPart.read.Goals as goal

pub returns-in_default : goal.returns-in_default
returns-in_default c = no_column c.args.bytes.now (rw c.in_default.is at c.in_ok-parts.ensures)
