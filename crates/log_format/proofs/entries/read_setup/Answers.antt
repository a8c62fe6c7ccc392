use Rattle.log_format.proofs.EntryReads.{no_setup}
use Rattle.log_format.proofs.entries.read_setup.Goals as goal

pub returns-in_default : goal.returns-in_default
returns-in_default c = no_setup c.args.generation c.args.rest.now c.requires (rw c.in_default.is at c.in_ok-parts.ensures)
