-- A store of a log stands for one once it is stopped.
use Rattle.std.proofs.Math.Logic.{∥∥₁_map}
use Rattle.store_log.specs.Keeps.{Stored}
use Rattle.store_log.proofs.FollowLemmas.{stopped_of_log}
use Rattle.store_log.proofs.stores.Held.give_back.Goals as goal

pub returns-clause-log : goal.returns-clause-log
returns-clause-log g c =
    let held = c.self.inside.store in
    let store : Stored = record {
      synced = g.D.LogStore.synced held;
      pending = g.D.LogStore.pending held;
      faults = g.D.LogStore.faults held;
      writes = g.D.LogStore.writes held;
    } in
    ∥∥₁_map c.self.invariant (λ is. stopped_of_log store (g.D.LogStore.synced c.halt.new.self) is c.halt.ensures.joined)
