use Rattle.std.proofs.Common.{rules, ◌≡◌, sym, subst}
use Rattle.node_state.specs.Packets.{IsPacket}
use Rattle.node_state.proofs.SentLaws.{packet_rests}
use Rattle.node_state.proofs.bodies.Body.sent.Goals as goal

pub invariant_of-result : goal.invariant_of-result
invariant_of-result g c =
    let G = g.J.Plan.setting in
    let p = packet_rests G c.args.self.now.actor.number c.args.draft.message c.args.draft.entries c.args.self.now.actor.seen c.note-note.new.self.actor.seen c.note-note.ensures.rests c.requires.sent.packet in
    let q = subst (λ t. IsPacket G c.args.draft.message c.args.draft.entries t) (sym c.note-note.ensures.note) p in
    let m : c.args.draft.message ≡ c.draft.inside.message = search rules in
    let e : c.args.draft.entries ≡ c.draft.inside.entries.items = search rules in
    subst (λ t. IsPacket G c.draft.inside.message t c.note-note.result) e (subst (λ t. IsPacket G t c.args.draft.entries c.note-note.result) m q)
