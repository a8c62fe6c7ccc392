use Rattle.std.proofs.Common.{rules, ◌≡◌, [], sym, subst, ◌∙◌}
use Rattle.node_state.specs.Nodes.{held}
use Rattle.node_state.specs.Packets.{AreSent}
use Rattle.node_state.proofs.ActionLaws.{own_adds_of}
use Rattle.node_state.proofs.CallLaws.{probed}
use Rattle.node_state.proofs.NodeLaws.{probes}
use Rattle.node_state.proofs.SentLaws.{probe_sent}
use Rattle.node_state.proofs.NumberLaws.{kept_same}
use Rattle.node_state.proofs.bodies.Body.probe.Goals as goal

pub happens-requires-clause-follows : goal.happens-requires-clause-follows
happens-requires-clause-follows g c = probes c.args.self.now.vote c.args.self.now.log.entries c.args.self.now.actor.seen c.args.ask c.requires.own.node c.requires.asked c.requires.up c.requires.may.0 c.requires.may.1 c.requires.may.2

pub send-requires-clause-sent : goal.send-requires-clause-sent
send-requires-clause-sent g c = subst (λ ps. AreSent g.J.Plan.setting c.happens.new.self.actor.seen ps) (sym c.in_ok-drafts.ensures)
    (probe_sent c.args.self.now.vote c.args.self.now.log.entries c.args.self.now.actor.seen c.happens.new.self.actor.seen c.args.ask c.requires.own.node (own_adds_of (held c.args.self.now.vote c.args.self.now.log.entries c.args.self.now.actor) c.requires.own c.happens.ensures.adds) c.happens.ensures.own.node.legal)

pub returns-clause-probes : goal.returns-clause-probes
returns-clause-probes g c =
    probed c.args.ask (held c.args.self.now.vote c.args.self.now.log.entries c.args.self.now.actor) (held c.happens.new.self.vote c.happens.new.self.log.entries c.happens.new.self.actor) (held c.send.new.self.vote c.send.new.self.log.entries c.send.new.self.actor) c.in_ok-packets.packets.items c.in_ok-drafts.drafts.items c.send.new.packets.items c.happens.ensures.did c.happens.ensures.vote c.happens.ensures.entries c.send.ensures.same
    (let e : c.in_ok-packets.packets.items ≡ [] = search rules in e) c.in_ok-drafts.ensures c.send.ensures.packets

pub returns-clause-kept : goal.returns-clause-kept
returns-clause-kept g c = kept_same c.args.self.now.vote c.send.new.self.vote c.args.self.now.log c.send.new.self.log (c.send.ensures.same.vote ∙ c.happens.ensures.vote) (c.send.ensures.log ∙ c.happens.ensures.log) c.requires.kept
