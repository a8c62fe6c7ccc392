use Rattle.std.proofs.Common.{rules, ◌≡◌, ◌≤◌, ◌+◌, ◌++◌, ◌∷◌, [], length, vec_len, vec_capacity, subst, ◌∙◌}
use Rattle.node_state.specs.Nodes.{held}
use Rattle.node_state.specs.Packets.{AreSent}
use Rattle.node_state.proofs.CallLaws.{before_then, put_on}
use Rattle.node_state.proofs.SentLaws.{sent_rests}
use Rattle.node_state.proofs.bodies.Body.send.Goals as goal

pub sending-preserved : goal.sending-preserved
sending-preserved g c =
    let G = g.J.Plan.setting in
    let s = c.sent-packet in
    let i = c.sending.invariant in
    let rest = c.next.new.self.rest.items in
    let e : c.sending.draft-iterator.rest.items ≡ c.in-Some.draft ∷ rest = search rules in
    let x : AreSent G c.sending.self.actor.seen (c.in-Some.draft ∷ rest) = subst (λ t. AreSent G c.sending.self.actor.seen t) e i.1 in
    let k : vec_len c.sending.packets + length (c.in-Some.draft ∷ rest) ≤ vec_capacity c.sending.packets = subst (λ t. vec_len c.sending.packets + length t ≤ vec_capacity c.sending.packets) e i.4 in (
      s.ensures.own,
      sent_rests G c.sending.self.actor.number rest c.sending.self.actor.seen s.new.self.actor.seen s.ensures.rests x.1,
      before_then (held c.args.self.now.vote c.args.self.now.log.entries c.args.self.now.actor) (held c.sending.self.vote c.sending.self.log.entries c.sending.self.actor) (held s.new.self.vote s.new.self.log.entries s.new.self.actor) i.2 s.ensures.same,
      put_on c.sending.packets.items s.result c.in-Some.draft rest (c.args.packets.now.items ++ c.args.drafts.items) c.push.new.self.items c.sending.draft-iterator.rest.items (let a : c.push.new.self.items ≡ c.sending.packets.items ++ s.result ∷ [] = search rules in a) s.ensures.packet e i.3,
      (let r : vec_len c.push.new.self + length rest ≤ vec_capacity c.push.new.self = search rules in r),
      s.ensures.log ∙ i.5,
      s.ensures.under_way ∙ i.6,
    )
