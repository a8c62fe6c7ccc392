use Rattle.std.proofs.Common.{◌∷◌, [], subst}
use Rattle.kept_log.specs.Kept.{HoldsAny, kept_by}
use Rattle.node_state.specs.Nodes.{held}
use Rattle.node_state.specs.Stores.{Stored}
use Rattle.node_state.proofs.StartLaws.{stored_down}
use Rattle.node_state.proofs.nodes.Node.stop.Goals as goal

pub invariant_of-self : goal.invariant_of-self
invariant_of-self g c = stored_down g.J.Plan.setting (held c.stop.new.self.vote c.stop.new.self.log.entries c.stop.new.self.actor) c.stop.new.self.log c.stop.new.self.under_way c.stop.ensures.own c.stop.ensures.kept c.stop.ensures.returns

pub returns-clause-holds : goal.returns-clause-holds
returns-clause-holds g c = subst (λ (n : Stored). HoldsAny c.stop.new.self.log (kept_by n.over ∷ [])) c.self.view_is c.stop.ensures.holds
