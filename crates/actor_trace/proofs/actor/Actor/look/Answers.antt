use Rattle.std.proofs.Common.{sym, ◌≡◌, ◌∙◌, arith}
use Rattle.std.specs.Vec.{vec_capacity}
use Rattle.actor_trace.proofs.Actors.{actor_looks}
use Rattle.actor_trace.proofs.Entries.{rests}
use Rattle.actor_trace.proofs.Allowing.{look_allowed}
use Rattle.actor_trace.proofs.actor.Actor.look.Goals as goal

pub load-requires : goal.load-requires
load-requires g c =
    let m = g.M.Machine in
    let t = c.args.trace.now in
    let one : t.table.shared.table_id.words ≡ 1 = t.words in (
      c.self.invariant.table_is ∙ sym t.named,
      omega arith,
      look_allowed m.enabled t.table.shared.key t.table.shared.table_id.slots c.self.inside.seat.id c.self.inside.seat.me,
    )

pub invariant_of-self : goal.invariant_of-self
invariant_of-self g c =
    let m = g.M.Machine in
    let i = c.self.invariant in
    actor_looks m.enabled g.J.Naming.table c.load.new.seat.table_id c.self.inside.seat.me.0 c.self.inside.number c.self.inside.made.items c.self.inside.room (vec_capacity c.self.inside.made)
    (c.load.ensures.0 ∙ i.table_is) i.made_is i.fits i.few c.load.new.seat.me (c.load.ensures.2.0 ∙ i.no_slot) c.load.result c.load.ensures.2.1

pub returns-clause-more : goal.returns-clause-more
returns-clause-more g c =
    let l = c.load.ensures.2.1 in
    rw (← c.self.view_is)
    (rests c.self.inside.number c.self.inside.made.items c.self.inside.seat.me.0.seen c.load.new.seat.me.0.seen l.sees c.self.invariant.own (invariant_of-self g c).own)
