use Rattle.session_language.proofs.SoundLaws.{no_rows_sound, sound_stays}
use Rattle.serial_laws.proofs.laws.rows_stay_sound.Goals as goal

pub returns : goal.returns
returns c = record { none = no_rows_sound; applied = sound_stays }
