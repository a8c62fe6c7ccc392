use Rattle.std.proofs.Common.{ap, sym, subst, ◌∙◌}
use Rattle.election_core.specs.declared.votes.NodeVote.{NodeVote}
use Rattle.node_state.specs.Commits.{MaySettle}
use Rattle.node_state.specs.Nodes.{held}
use Rattle.node_state.specs.Stores.{Stored}
use Rattle.node_state.proofs.NumberLaws.{kept_same}
use Rattle.node_state.proofs.SettleLaws.{settle_up}
use Rattle.node_state.proofs.StartLaws.{stored_up}
use Rattle.node_state.proofs.nodes.Node.settle.Goals as goal

pub invariant_of-self : goal.invariant_of-self
invariant_of-self g c =
    stored_up g.J.Plan.setting (held c.settle.new.self.vote c.settle.new.self.log.entries c.settle.new.self.actor) c.settle.new.self.log c.settle.new.self.under_way c.settle.ensures.own
    (kept_same c.self.inside.body.vote c.settle.new.self.vote c.self.inside.body.log c.settle.new.self.log c.settle.ensures.vote c.settle.ensures.log c.self.invariant.over)
    (ap (λ (v : NodeVote). v.up) c.settle.ensures.vote ∙ settle_up g.J.Plan.setting c.self.inside.body.vote c.self.inside.body.log.entries c.self.inside.body.actor.seen c.args.id.now c.args.decision.now c.self.invariant.own.node
    (subst (λ (n : Stored). MaySettle g.J.Plan.setting n.actor.seen n.vote.node c.args.id.now c.args.decision.now) (sym c.self.view_is) c.requires.may))
