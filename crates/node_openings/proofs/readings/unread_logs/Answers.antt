use Rattle.std.proofs.Common.{sym, ◌∙◌}
use Rattle.std.specs.Vec.Iter.{into_iter_items}
use Rattle.node_openings.specs.Found.{unread_from}
use Rattle.node_openings.proofs.ReadLemmas.{all_unopened, unread_end}
use Rattle.node_openings.proofs.readings.unread_logs.Goals as goal

pub returns-clause-unopened : goal.returns-clause-unopened
returns-clause-unopened g c =
    let synced = g.D.LogStore.synced in
    let faults = g.D.LogStore.faults in
    let i = c.stores.invariant in
    all_unopened synced faults c.args.cluster c.args.stores.items c.stores.logs.items
    (unread_end synced faults c.args.cluster c.stores.node c.stores.logs.items (unread_from synced faults c.args.cluster 1 c.args.stores.items) (into_iter_items c.stores.store-iterator) (sym i.count ∙ c.in-None.ensures.steps.0) i.logs)
