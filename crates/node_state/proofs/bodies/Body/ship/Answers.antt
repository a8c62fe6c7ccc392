use Rattle.std.proofs.Common.{◌≡◌, refl, sym, subst, ap, ◌∙◌}
use Rattle.phys_log.specs.declared.entries.Entry.{Entry}
use Rattle.std.specs.Prelude.{List}
use Rattle.node_state.specs.Nodes.{events_of, held}
use Rattle.node_state.specs.Packets.{AreSent}
use Rattle.node_state.specs.Ships.{again_packets, learned_by}
use Rattle.election_core.specs.declared.votes.NodeVote.{NodeVote}
use Rattle.node_state.proofs.AgainLaws.{again_sent}
use Rattle.node_state.proofs.NumberLaws.{kept_same}
use Rattle.node_state.proofs.StartLaws.{stored_up}
use Rattle.node_state.proofs.bodies.Body.ship.Goals as goal

pub send-requires-clause-sent : goal.send-requires-clause-sent
send-requires-clause-sent g c =
    let is : c.has_learned-learned.result ≡ learned_by (events_of c.args.self.now.actor.made) = c.has_learned-learned.ensures ∙ ap (λ es. learned_by (events_of es)) c.steps.ensures in
    subst (λ ps. AreSent g.J.Plan.setting c.args.self.now.actor.seen ps)
    (sym (c.in_ok-drafts.ensures ∙ ap (λ (l : List Entry). again_packets c.args.self.now.vote c.has_learned-learned.result c.args.to l) c.entries.ensures.entries))
    (again_sent g.J.Plan.setting (held c.args.self.now.vote c.args.self.now.log.entries c.args.self.now.actor) c.args.to c.has_learned-learned.result c.requires.node.own c.knows.ensures.own (c.if-not-leads.ensures.0 refl) c.requires.to.0 c.requires.to.1 is)

pub returns-clause-node : goal.returns-clause-node
returns-clause-node g c =
    stored_up g.J.Plan.setting (held c.send.new.self.vote c.send.new.self.log.entries c.send.new.self.actor) c.send.new.self.log c.send.new.self.under_way c.send.ensures.own
    (kept_same c.args.self.now.vote c.send.new.self.vote c.args.self.now.log c.send.new.self.log c.send.ensures.same.vote c.send.ensures.log c.requires.node.over)
    (ap (λ (v : NodeVote). v.up) c.send.ensures.same.vote ∙ (c.if-not-leads.ensures.0 refl).0)
