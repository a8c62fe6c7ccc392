use Rattle.std.proofs.Common.{rules, ◌≡◌, [], sym, subst}
use Rattle.node_state.specs.Nodes.{held, Follows}
use Rattle.node_state.specs.Packets.{AreSent, standing_packets}
use Rattle.cluster_steps.specs.declared.events.Event.TheVariants.{Stand}
use Rattle.node_state.proofs.ActionLaws.{own_adds_of}
use Rattle.node_state.proofs.CallLaws.{stood_by, stood}
use Rattle.node_state.proofs.NodeLaws.{stands}
use Rattle.node_state.proofs.SentLaws.{stand_sent}
use Rattle.node_state.proofs.NumberLaws.{stand_numbers}
use Rattle.node_state.proofs.bodies.Body.stand.Goals as goal

pub promises-requires-clause-follows : goal.promises-requires-clause-follows
promises-requires-clause-follows g c =
    let q = stood_by c.args.self.now.vote c.stand.new.vote c.args.generation c.stand.result c.stand.ensures.event c.requires.up c.requires.above c.stand.ensures.changes in
    subst (λ u. Follows g.J.Plan.setting c.args.self.now.vote.node (Stand c.args.generation) u c.args.self.now.log.entries c.args.self.now.actor.seen) (sym q)
    (stands c.args.self.now.vote c.args.self.now.log.entries c.args.self.now.actor.seen c.args.generation c.requires.own.node (c.requires.up, c.requires.above))

pub send-requires-clause-sent : goal.send-requires-clause-sent
send-requires-clause-sent g c =
    let q = stood_by c.args.self.now.vote c.stand.new.vote c.args.generation c.stand.result c.stand.ensures.event c.requires.up c.requires.above c.stand.ensures.changes in
    subst (λ ps. AreSent g.J.Plan.setting c.promises.new.self.actor.seen ps) (sym c.in_ok-drafts.ensures)
    (subst (λ u. AreSent g.J.Plan.setting c.promises.new.self.actor.seen (standing_packets u c.args.generation)) (sym q)
    (stand_sent c.args.self.now.vote c.args.self.now.log.entries c.args.self.now.actor.seen c.promises.new.self.actor.seen c.args.generation c.requires.own.node (own_adds_of (held c.args.self.now.vote c.args.self.now.log.entries c.args.self.now.actor) c.requires.own c.in_ok-promises.ensures.adds) c.promises.ensures.own.node.legal))

pub returns-clause-stands : goal.returns-clause-stands
returns-clause-stands g c =
    let q = stood_by c.args.self.now.vote c.stand.new.vote c.args.generation c.stand.result c.stand.ensures.event c.requires.up c.requires.above c.stand.ensures.changes in
    stood c.args.generation (held c.args.self.now.vote c.args.self.now.log.entries c.args.self.now.actor) (held c.promises.new.self.vote c.promises.new.self.log.entries c.promises.new.self.actor) (held c.send.new.self.vote c.send.new.self.log.entries c.send.new.self.actor) c.stand.new.vote c.in_ok-packets.packets.items c.in_ok-drafts.drafts.items c.send.new.packets.items c.in_ok-promises.ensures.did c.in_ok-promises.ensures.vote q c.in_ok-promises.ensures.entries c.send.ensures.same
    (let e : c.in_ok-packets.packets.items ≡ [] = search rules in e) c.in_ok-drafts.ensures c.send.ensures.packets

pub promises-requires-clause-numbers : goal.promises-requires-clause-numbers
promises-requires-clause-numbers g c = stand_numbers c.args.self.now.vote c.stand.new.vote c.args.generation c.requires.up (stood_by c.args.self.now.vote c.stand.new.vote c.args.generation c.stand.result c.stand.ensures.event c.requires.up c.requires.above c.stand.ensures.changes)
