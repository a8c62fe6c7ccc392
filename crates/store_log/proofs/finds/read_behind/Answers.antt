use Rattle.store_log.proofs.FindLemmas.{ended_result, memory_errs, on_ok, same_errs, unread_errs}
use Rattle.store_log.proofs.StepLemmas.{header_within}
use Rattle.store_log.proofs.finds.read_behind.Goals as goal

pub read_frames-requires-clause-begun : goal.read_frames-requires-clause-begun
read_frames-requires-clause-begun g c = header_within c.args.node c.args.cluster c.args.window.items c.requires.begun

pub returns-clause-found : goal.returns-clause-found
returns-clause-found g c =
    ended_result c.found_in.result c.in_ok-ended.ended c.args.node c.args.cluster (g.D.LogStore.synced c.args.store.now) c.args.window.items
    c.in_ok-ended.ensures.ended c.requires.begun c.requires.front c.found_in.ensures.promised c.found_in.ensures.accepted
    c.found_in.ensures.entries c.found_in.ensures.closed c.found_in.ensures.end

pub returns-clause-why : goal.returns-clause-why
returns-clause-why g c =
    memory_errs c.found_in.result c.args.node c.args.cluster (g.D.LogStore.synced c.args.store.now) (g.D.LogStore.faults c.args.store.now)
    (g.D.LogStore.faults c.read_frames.new.store) c.found_in.ensures.why

pub returns-clause-calm : goal.returns-clause-calm
returns-clause-calm g c = on_ok c.found_in.result c.in_ok-ended.ensures.calm

pub returns-clause-later : goal.returns-clause-later
returns-clause-later g c =
    same_errs c.found_in.result (g.D.LogStore.faults c.args.store.now) (g.D.LogStore.faults c.read_frames.new.store) c.in_ok-ended.ensures.calm

pub returns-clause-unread : goal.returns-clause-unread
returns-clause-unread g c = unread_errs c.found_in.result c.found_in.ensures.why
