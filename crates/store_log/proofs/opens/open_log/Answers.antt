-- A store that was opened is one of a log.
use Rattle.store_log.specs.Holds.{plain}
use Rattle.store_log.specs.Keeps.{Stored}
use Rattle.store_log.proofs.FollowLemmas.{opened_of_log}
use Rattle.store_log.proofs.opens.open_log.Goals as goal

pub of-requires : goal.of-requires
of-requires g c =
    let held = c.make_ready.new.store in
    let store : Stored = record {
      synced = g.D.LogStore.synced held;
      pending = g.D.LogStore.pending held;
      faults = g.D.LogStore.faults held;
      writes = g.D.LogStore.writes held;
    } in
    let found = c.in-Ok.found in
    ∣ opened_of_log c.args.node c.args.cluster (plain found.promised found.accepted found.entries) store c.in-Ok.ensures.holds c.make_ready.ensures.settled ∣₁
