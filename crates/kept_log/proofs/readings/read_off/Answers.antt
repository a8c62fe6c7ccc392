use Rattle.kept_log.proofs.ReadLemmas.{still_alike, still_read, stood_of}
use Rattle.kept_log.proofs.readings.read_off.Goals as goal

pub returns-in-Ok-clause-stood : goal.returns-in-Ok-clause-stood
returns-in-Ok-clause-stood g c =
    stood_of _ _ _ c.close-reading.result.0.promised c.close-reading.result.0.accepted c.close-reading.result.0.entries c.in-Ok.log
    c.close-reading.ensures.promised c.close-reading.ensures.accepted c.close-reading.ensures.entries c.in-Ok.ensures.stood

pub returns-in-Ok-clause-still : goal.returns-in-Ok-clause-still
returns-in-Ok-clause-still g c =
    still_read _ _ _ _ c.in-Ok.log (record { node = c.close-reading.ensures.numbered; cluster = c.close-reading.ensures.named })
    (record { node = c.in-Ok.ensures.node; cluster = c.in-Ok.ensures.cluster }) c.in-Ok.ensures.stood c.close-reading.ensures.holds

pub returns-in-Err-clause-still : goal.returns-in-Err-clause-still
returns-in-Err-clause-still g c = still_alike _ _ _ _ c.in-Err.ensures.alike
