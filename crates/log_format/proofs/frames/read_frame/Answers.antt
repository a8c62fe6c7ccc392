use Rattle.log_format.proofs.FrameReads.{no_payload_is_bad}
use Rattle.log_format.proofs.frames.read_frame.Goals as goal

pub returns-in-None : goal.returns-in-None
returns-in-None c =
    no_payload_is_bad c.in-Whole.kind c.in-Whole.payload.now c.args.bytes.now c.in-Whole.ensures
    (rw c.in-None.is at c.in_ok-read_payload-in-Whole.ensures)
