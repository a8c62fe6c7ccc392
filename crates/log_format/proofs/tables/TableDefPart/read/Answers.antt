use Rattle.log_format.proofs.PartReads.{no_table}
use Rattle.log_format.proofs.tables.TableDefPart.read.Goals as goal

pub returns-in_default : goal.returns-in_default
returns-in_default c = no_table c.args.bytes.now (rw c.in_default.is at c.in_ok-parts.ensures)
