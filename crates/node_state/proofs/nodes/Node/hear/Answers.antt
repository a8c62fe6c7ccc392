use Rattle.std.proofs.Common.{ap}
use Rattle.kept_log.specs.Kept.{OverStore}
use Rattle.node_state.proofs.StartLaws.{stored_rests}
use Rattle.node_state.proofs.nodes.Node.hear.Goals as goal

pub invariant_of-self : goal.invariant_of-self
invariant_of-self g c =
    stored_rests g.J.Plan.setting c.self.inside.body.vote c.hear.new.self.vote c.self.inside.body.log.entries c.hear.new.self.log.entries c.self.inside.body.actor c.hear.new.self.actor c.self.inside.body.log c.hear.new.self.log c.self.inside.body.under_way c.hear.new.self.under_way c.self.invariant c.hear.ensures.own c.hear.ensures.same.vote (ap (λ (x : OverStore). x.entries) c.hear.ensures.log) c.hear.ensures.log c.hear.ensures.under_way c.hear.ensures.rests
