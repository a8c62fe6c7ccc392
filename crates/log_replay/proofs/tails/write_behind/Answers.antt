use Rattle.std.proofs.Common.{◌≡◌, ℕ, ◌+◌, ◌<◌, ◌++◌, ◌∷◌, [], None, take, length, sym, ap, ◌∙◌}
use Rattle.std.proofs.lemmas.List.{take_more}
use Rattle.phys_log.specs.declared.entries.Entry.{Entry}
use Rattle.phys_log.specs.Logs.{IsLog, AreNext, records_of}
use Rattle.log_replay.specs.Kept.{page_in}
use Rattle.log_replay.proofs.LogLemmas.{kept_room}
use Rattle.log_replay.proofs.WriteLemmas.{whether_back}
use Rattle.log_replay.proofs.TailLemmas.{tail_came, tail_gone, fits_there}
use Rattle.log_replay.proofs.tails.write_behind.Goals as goal

pub write_entry-requires : goal.write_entry-requires
write_entry-requires c = kept_room (c.args.front.now ++ take c.loop-i.i c.args.entries.now) c.loop-i.pages None c.loop-i.invariant.kept

pub undo_entries-requires : goal.undo_entries-requires
undo_entries-requires c =
    let done = take c.loop-i.i c.args.entries.now in
    tail_came c.args.front.now done c.write_entry.new.pages (c.in-Err.ensures.same (c.args.front.now ++ done) c.loop-i.invariant.kept)

pub returns-in-Err-clause-same : goal.returns-in-Err-clause-same
returns-in-Err-clause-same c =
    let done = take c.loop-i.i c.args.entries.now in
    tail_gone c.args.front.now done c.write_entry.new.pages c.undo_entries.new.pages
    (c.in-Err.ensures.same (c.args.front.now ++ done) c.loop-i.invariant.kept) c.undo_entries.ensures.undone c.undo_entries.ensures.unlinked

pub returns-in-Err-clause-fits : goal.returns-in-Err-clause-fits
returns-in-Err-clause-fits c =
    let entries = c.args.entries.now in
    let i = c.loop-i.i in
    let e = c.index-entries-i.result in
    let within : i < length entries = c.loop-i-test.true in
    let more : take (i + 1) entries ≡ take i entries ++ e ∷ [] = take_more entries i e within ∙ ap (λ (x : Entry). take i entries ++ x ∷ []) (sym c.index-entries-i.is) in
    whether_back ℕ (Unit {0}) c.in-Err.fault (AreNext (page_in c.loop-i.pages) (c.loop-i.last + 1) (records_of e)) (∥ IsLog (c.args.front.now ++ entries) ∥₁)
    (fits_there c.args.front.now entries i e c.loop-i.pages c.loop-i.last within more c.loop-i.invariant.kept c.loop-i.invariant.last) c.in-Err.ensures.fits
