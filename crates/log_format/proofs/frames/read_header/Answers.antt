use Rattle.log_format.proofs.FrameReads.{no_header}
use Rattle.log_format.proofs.frames.read_header.Goals as goal

pub returns-in_default : goal.returns-in_default
returns-in_default c = no_header c.args.bytes.now (rw c.in_default.is at c.in_ok-parts.ensures)
