use Rattle.std.proofs.Common.{sym, ◌≡◌, ◌∙◌, subst, ap, arith, ◌∷◌}
use Rattle.actor_trace.specs.Lists.In.{here}
use Rattle.std.specs.Vec.{vec_capacity}
use Rattle.atomic_table.specs.Table.{Me}
use Rattle.actor_trace.specs.declared.view.View.{View}
use Rattle.actor_trace.proofs.Actors.{actor_looks}
use Rattle.actor_trace.proofs.Entries.{rests}
use Rattle.actor_trace.proofs.Allowing.{look_allowed, hear_allowed}
use Rattle.actor_trace.specs.Lists.{Begins, In}
use Rattle.actor_trace.proofs.actor.Actor.meet.Goals as goal

pub join_seat-requires : goal.join_seat-requires
join_seat-requires g c =
    let m = g.M.Machine in
    let t = c.args.trace.now in
    let one : t.table.shared.table_id.words ≡ 1 = t.words in (
      c.self.invariant.table_is ∙ sym t.named,
      c.note.invariant.table_is ∙ sym t.named,
      c.note.invariant.no_slot,
      omega arith,
      hear_allowed m.enabled t.table.shared.key c.self.inside.seat.id c.self.inside.seat.me.0 c.note.inside.seat.id c.note.inside.seat.me.0,
    )

pub load-requires : goal.load-requires
load-requires g c =
    let m = g.M.Machine in
    let t = c.args.trace.now in
    let one : t.table.shared.table_id.words ≡ 1 = t.words in (
      c.join_seat.ensures.0 ∙ (c.self.invariant.table_is ∙ sym t.named),
      omega arith,
      look_allowed m.enabled t.table.shared.key t.table.shared.table_id.slots c.join_seat.new.seat.id c.join_seat.new.seat.me,
    )

pub invariant_of-self : goal.invariant_of-self
invariant_of-self g c =
    let m = g.M.Machine in
    let i = c.self.invariant in
    let joined = c.join_seat.ensures.2 in
    actor_looks m.enabled g.J.Naming.table c.load.new.seat.table_id c.join_seat.new.seat.me.0 c.self.inside.number c.self.inside.made.items c.self.inside.room (vec_capacity c.self.inside.made)
    (c.load.ensures.0 ∙ (c.join_seat.ensures.0 ∙ i.table_is)) (ap (λ (me : Me (Unit {0}) (View g.row.M-Event.Denot)). me.0.made) joined ∙ i.made_is) i.fits i.few c.load.new.seat.me
    (c.load.ensures.2.0 ∙ (ap (λ (me : Me (Unit {0}) (View g.row.M-Event.Denot)). me.1) joined ∙ i.no_slot)) c.load.result c.load.ensures.2.1

pub returns-clause-note : goal.returns-clause-note
returns-clause-note g c =
    let l = c.load.ensures.2.1 in
    let heard : c.join_seat.new.seat.me.0.heard ≡ c.note.inside.seat.me.0.seen ∷ c.self.inside.seat.me.0.heard = ap (λ (me : Me (Unit {0}) (View g.row.M-Event.Denot)). me.0.heard) c.join_seat.ensures.2 in
    rw (← c.note.view_is) (l.hears c.note.inside.seat.me.0.seen (subst (λ x. In c.note.inside.seat.me.0.seen x) (sym heard) here))

pub returns-clause-more : goal.returns-clause-more
returns-clause-more g c =
    let l = c.load.ensures.2.1 in
    let i = invariant_of-self g c in
    let seen : c.join_seat.new.seat.me.0.seen ≡ c.self.inside.seat.me.0.seen = ap (λ (me : Me (Unit {0}) (View g.row.M-Event.Denot)). me.0.seen) c.join_seat.ensures.2 in
    let b : Begins c.self.inside.seat.me.0.seen c.load.new.seat.me.0.seen = subst (λ x. Begins x c.load.new.seat.me.0.seen) seen l.sees in
    rw (← c.self.view_is) (rests c.self.inside.number c.self.inside.made.items c.self.inside.seat.me.0.seen c.load.new.seat.me.0.seen b c.self.invariant.own i.own)
