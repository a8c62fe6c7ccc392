use Rattle.std.proofs.Common.{subst}
use Rattle.node_state.specs.Stores.{IsLeft, Stored}
use Rattle.node_state.proofs.nodes.Node.knows.Goals as goal

pub returns-clause-left : goal.returns-clause-left
returns-clause-left g c = subst (λ (n : Stored). IsLeft g.J.Plan.setting n) c.self.view_is (λ down was. (c.self.inside.body.under_way, c.self.invariant.down down was))
