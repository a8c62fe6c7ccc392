-- What was written may follow, and so does a front of it.
use Rattle.std.proofs.Common.{sym, subst}
use Rattle.std.proofs.Math.Logic.{∥∥₁_map}
use Rattle.store_log.specs.Follows.{AreNextFrames}
use Rattle.store_log.specs.Keeps.{Stored}
use Rattle.store_log.proofs.FollowLemmas.{written_of_log}
use Rattle.store_log.proofs.stores.Held.keep_bytes.Goals as goal

pub invariant_of-self : goal.invariant_of-self
invariant_of-self g c =
    let old = g.D.LogStore.synced c.self.inside.store in
    let next = c.args.bytes.now in
    let left = c.write_synced.new.store in
    let new : Stored = record {
      synced = g.D.LogStore.synced left;
      pending = g.D.LogStore.pending left;
      faults = g.D.LogStore.faults left;
      writes = g.D.LogStore.writes left;
    } in
    let told = c.write_synced.ensures in
    ∥∥₁_map c.requires.next (λ a.
    written_of_log c.write_synced.result old next new (subst (λ (s : Stored). AreNextFrames s.synced next) (sym c.self.view_is) a)
    told.synced told.settled told.same told.part)
