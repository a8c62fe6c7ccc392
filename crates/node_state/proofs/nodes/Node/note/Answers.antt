use Rattle.std.proofs.Common.{ap}
use Rattle.kept_log.specs.Kept.{OverStore}
use Rattle.node_state.proofs.StartLaws.{stored_rests}
use Rattle.node_state.proofs.nodes.Node.note.Goals as goal

pub invariant_of-self : goal.invariant_of-self
invariant_of-self g c =
    stored_rests g.J.Plan.setting c.self.inside.body.vote c.note.new.self.vote c.self.inside.body.log.entries c.note.new.self.log.entries c.self.inside.body.actor c.note.new.self.actor c.self.inside.body.log c.note.new.self.log c.self.inside.body.under_way c.note.new.self.under_way c.self.invariant c.note.ensures.own c.note.ensures.same.vote (ap (λ (x : OverStore). x.entries) c.note.ensures.log) c.note.ensures.log c.note.ensures.under_way c.note.ensures.rests
