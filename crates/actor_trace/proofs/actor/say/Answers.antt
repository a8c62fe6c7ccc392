use Rattle.std.proofs.Common.{◌≡◌, subst, ℕ, arith}
use Rattle.actor_trace.proofs.Adding.{tell_allowed}
use Rattle.actor_trace.specs.Plays.{Told}
use Rattle.actor_trace.proofs.actor.say.Goals as goal

pub returns-clause-told : goal.returns-clause-told
returns-clause-told g c =
    let m = g.M.Machine in
    subst (λ (b : ℕ). Told m.enabled b c.args.event.now c.args.seat.now.me.0 c.fetch_add.result c.fetch_add.new.seat.me.0) c.requires.picked.0 (c.fetch_add.ensures.2.1 c.args.event.now c.requires.picked.1)

pub fetch_add-requires : goal.fetch_add-requires
fetch_add-requires g c =
    let m = g.M.Machine in
    let laws = g.met.M.Machine in
    let r = c.requires.seat in (
      c.requires.table.0,
      (let one : c.args.shared.now.table_id.words ≡ 1 = c.requires.table.1 in omega arith),
      tell_allowed m.enabled laws.known c.args.shared.now.key c.args.shared.now.table_id.slots c.args.seat.now.id c.args.seat.now.me
          c.args.number g.T.Telling.by c.args.event.now r.0 g.T.Telling.events c.requires.picked.0 c.requires.picked.1 r.1 r.2 r.3 c.requires.enabled,
    )
