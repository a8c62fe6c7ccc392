use Rattle.log_format.proofs.EntryReads.{no_entry_head}
use Rattle.log_format.proofs.entries.EntryPart.read.Goals as goal

pub returns-in_default : goal.returns-in_default
returns-in_default c = no_entry_head c.args.bytes.now (rw c.in_default.is at c.in_ok-head.ensures)
