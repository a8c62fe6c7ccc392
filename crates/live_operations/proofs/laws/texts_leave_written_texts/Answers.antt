use Rattle.live_operations.proofs.CodedLaws.{texts_leave_written, sound_have_codes}
use Rattle.live_operations.proofs.laws.texts_leave_written_texts.Goals as goal

pub returns : goal.returns
returns c = record { ops = texts_leave_written; coded = sound_have_codes }
