use Rattle.node_state.proofs.StartLaws.{stored_reserved}
use Rattle.node_state.proofs.nodes.Node.reserve.Goals as goal

pub invariant_of-self : goal.invariant_of-self
invariant_of-self g c = stored_reserved g.J.Plan.setting c.self.inside.body.vote c.self.inside.body.log.entries c.self.inside.body.actor c.reserve.new.self c.self.inside.body.log c.self.inside.body.under_way c.self.invariant c.reserve.ensures.same.0 c.reserve.ensures.same.2
