use Rattle.std.proofs.Common.{◌≡◌, ◌++◌, [], ◌∷◌, ◌∙◌, arith}
use Rattle.actor_trace.proofs.Allowing.{enter_allowed}
use Rattle.actor_trace.proofs.Joined.{has_more, popped}
use Rattle.actor_trace.proofs.trace.Trace.gather.Goals as goal

pub load_new_seat-seat-requires : goal.load_new_seat-seat-requires
load_new_seat-seat-requires g c =
    let m = g.M.Machine in
    let t = c.args.self.now in
    let one : t.table.shared.table_id.words ≡ 1 = t.words in
    (omega arith, enter_allowed m.enabled t.table.shared.key t.table.shared.table_id.slots)

pub gathering-preserved : goal.gathering-preserved
gathering-preserved g c =
    let i = c.gathering.invariant in (
      c.take_in.ensures.same ∙ i.0,
      (
        i.1.0 ++ c.in-Some.actor ∷ [],
        popped c.args.actors.items i.1.0 c.gathering.actors.items c.pop.new.self.items c.in-Some.actor i.1.1 c.in-Some.ensures.items,
        c.take_in.ensures.me ∙ has_more c.gathering.seat.me i.1.0 c.in-Some.actor i.1.2,
      ),
    )
