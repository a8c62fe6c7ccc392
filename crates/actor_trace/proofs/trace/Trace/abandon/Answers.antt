use Rattle.std.proofs.Common.{ℕ, ◌≡◌, subst, arith}
use Rattle.std.specs.Slots.{slots_len}
use Rattle.actor_trace.proofs.Ended.{history_of}
use Rattle.actor_trace.specs.Actors.{IsHistory}
use Rattle.actor_trace.proofs.trace.Trace.abandon.Goals as goal

pub free-requires : goal.free-requires
free-requires g c k lt =
    let z : slots_len c.close_with.result.slots ≡ c.args.self.table.shared.table_id.slots = c.close_with.ensures.counts.1 in
    let zero_is : c.args.self.table.shared.table_id.slots ≡ 0 = c.args.self.slots in
    absurd (omega (arith, z, zero_is, lt))

pub returns : goal.returns
returns g c =
    let m = g.M.Machine in
    let f = c.close_with.ensures.values.2 in
    let k = f.1.0 in
    record {
      history = (
        k.log,
        subst (λ (n : ℕ). IsHistory m.enabled n c.args.actors.items k.log) c.args.self.size
            (history_of m.enabled c.args.self.table.shared.key c.gather-seat.result.id f.0.words f.0.views c.args.actors.items c.gather-seat.result.me k f.1.1 c.gather-seat.ensures.me),
      );
    }
