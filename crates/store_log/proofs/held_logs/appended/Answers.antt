use Rattle.std.proofs.Common.{List}
use Rattle.phys_log.specs.Logs.{Fits}
use Rattle.phys_log.specs.declared.entries.Entry.{Entry}
use Rattle.store_log.proofs.PieceLemmas.{told_may}
use Rattle.store_log.proofs.held_logs.appended.Goals as goal

pub returns-in-Err-clause-may : goal.returns-in-Err-clause-may
returns-in-Err-clause-may c =
    told_may (List Entry) c.append.result c.in-Err.fault c.why_not.result (Fits c.args.live c.args.entry) c.in-Err.is c.why_not.ensures
    c.append.ensures.fits
