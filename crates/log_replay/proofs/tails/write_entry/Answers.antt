use Rattle.std.proofs.Common.{refl, ◌+◌, length}
use Rattle.log_replay.proofs.TailLemmas.{entry_kept}
use Rattle.log_replay.proofs.tails.write_entry.Goals as goal

pub returns-in-Ok-clause-kept : goal.returns-in-Ok-clause-kept
returns-in-Ok-clause-kept c = λ log kept last at.
    entry_kept log c.args.entry.now c.records-records.result.now c.args.last c.args.position (c.args.last + length c.records-records.result.now) c.args.pages.now c.write_all.new.pages
    kept c.records-records.ensures last at refl c.in-Ok.ensures.next c.in-Ok.ensures.made c.in-Ok.ensures.linked
