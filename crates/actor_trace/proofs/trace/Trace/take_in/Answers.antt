use Rattle.std.proofs.Common.{◌≡◌, ◌∷◌, [], ◌∙◌, sym, ap, arith}
use Rattle.actor_trace.specs.Actors.{Knows, tag_of}
use Rattle.actor_trace.proofs.Allowing.{gather_allowed}
use Rattle.actor_trace.proofs.Joined.{taken}
use Rattle.actor_trace.proofs.trace.Trace.take_in.Goals as goal

pub join_seat-requires : goal.join_seat-requires
join_seat-requires g c =
    let m = g.M.Machine in
    let t = c.args.self.now in
    let one : t.table.shared.table_id.words ≡ 1 = t.words in (
      c.requires,
      c.actor.invariant.table_is ∙ sym t.named,
      c.actor.invariant.no_slot,
      omega arith,
      gather_allowed m.enabled t.table.shared.key c.args.seat.now.id c.args.seat.now.me.0 c.actor.inside.seat.id c.actor.inside.seat.me.0,
    )

pub returns-clause-me : goal.returns-clause-me
returns-clause-me g c =
    c.join_seat.ensures.2 ∙ taken c.args.seat.now.me c.args.actor c.actor.inside.seat.me.0
    (c.actor.invariant.made_is ∙ ap (λ (x : Knows g.row.M-Event.Denot). tag_of x ∷ []) c.actor.view_is) (ap (λ (x : Knows g.row.M-Event.Denot). x.seen) c.actor.view_is)
