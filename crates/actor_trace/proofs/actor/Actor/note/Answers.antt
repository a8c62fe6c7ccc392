use Rattle.std.proofs.Common.{sym, ◌≡◌, ◌∙◌, subst, ap, arith}
use Rattle.std.specs.Vec.{vec_capacity}
use Rattle.atomic_table.specs.Table.{Me}
use Rattle.actor_trace.specs.declared.view.View.{View}
use Rattle.actor_trace.proofs.Actors.{actor_looks}
use Rattle.actor_trace.proofs.Entries.{rests}
use Rattle.actor_trace.proofs.Allowing.{look_allowed, jot_allowed}
use Rattle.actor_trace.proofs.actor.Actor.note.Given as given
use Rattle.actor_trace.specs.Seats.{IsActor}
use Rattle.actor_trace.proofs.actor.Actor.note.Goals as goal

pub load-count-requires : goal.load-count-requires
load-count-requires g c =
    let m = g.M.Machine in
    let t = c.args.trace.now in
    let one : t.table.shared.table_id.words ≡ 1 = t.words in (
      c.self.invariant.table_is ∙ sym t.named,
      omega arith,
      look_allowed m.enabled t.table.shared.key t.table.shared.table_id.slots c.self.inside.seat.id c.self.inside.seat.me,
    )

pub split_seat-requires : goal.split_seat-requires
split_seat-requires g c =
    let m = g.M.Machine in
    let t = c.args.trace.now in
    let one : t.table.shared.table_id.words ≡ 1 = t.words in (
      c.load-count.ensures.0 ∙ (c.self.invariant.table_is ∙ sym t.named),
      omega arith,
      jot_allowed m.enabled t.table.shared.key c.load-count.new.seat.id c.load-count.new.seat.me.0,
    )

looked : (g : given.Over) (c : goal.After-split_seat g) → IsActor g.M.Machine.enabled g.J.Naming.table c.split_seat.new.seat.table_id c.load-count.new.seat.me c.self.inside.number c.self.inside.made.items c.self.inside.room (vec_capacity c.self.inside.made)
looked g c =
    let m = g.M.Machine in
    let i = c.self.invariant in
    actor_looks m.enabled g.J.Naming.table c.split_seat.new.seat.table_id c.self.inside.seat.me.0 c.self.inside.number c.self.inside.made.items c.self.inside.room (vec_capacity c.self.inside.made)
    (c.split_seat.ensures.0 ∙ (c.load-count.ensures.0 ∙ i.table_is)) i.made_is i.fits i.few c.load-count.new.seat.me (c.load-count.ensures.2.0 ∙ i.no_slot) c.load-count.result c.load-count.ensures.2.1

pub invariant_of-self : goal.invariant_of-self
invariant_of-self g c =
    let m = g.M.Machine in
    subst (λ (me : Me (Unit {0}) (View g.row.M-Event.Denot)). IsActor m.enabled g.J.Naming.table c.split_seat.new.seat.table_id me c.self.inside.number c.self.inside.made.items c.self.inside.room (vec_capacity c.self.inside.made))
    (sym c.split_seat.ensures.2) (looked g c)

pub returns-clause-own : goal.returns-clause-own
returns-clause-own g c = rw (← c.self.view_is, ap (λ (me : Me (Unit {0}) (View g.row.M-Event.Denot)). me.0.seen) c.split_seat.ensures.4) (sym (looked g c).own)

pub returns-clause-more : goal.returns-clause-more
returns-clause-more g c =
    let l = c.load-count.ensures.2.1 in
    rw (← c.self.view_is, ap (λ (me : Me (Unit {0}) (View g.row.M-Event.Denot)). me.0.seen) c.split_seat.ensures.2)
    (rests c.self.inside.number c.self.inside.made.items c.self.inside.seat.me.0.seen c.load-count.new.seat.me.0.seen l.sees c.self.invariant.own (looked g c).own)
