use Rattle.std.proofs.Common.{refl}
use Rattle.node_state.specs.Nodes.{held}
use Rattle.node_state.proofs.CallLaws.{as_before, own_rests}
use Rattle.node_state.proofs.bodies.Body.hear.Goals as goal

pub returns-clause-own : goal.returns-clause-own
returns-clause-own g c = own_rests g.J.Plan.setting (held c.args.self.now.vote c.args.self.now.log.entries c.args.self.now.actor) (held c.args.self.now.vote c.args.self.now.log.entries c.meet.new.self) c.requires.own refl refl c.meet.ensures.same.0 c.meet.ensures.more c.meet.ensures.legal

pub returns-clause-same : goal.returns-clause-same
returns-clause-same g c = as_before (held c.args.self.now.vote c.args.self.now.log.entries c.args.self.now.actor) (held c.args.self.now.vote c.args.self.now.log.entries c.meet.new.self) refl refl c.meet.ensures.same.0 c.meet.ensures.same.1 c.meet.ensures.more c.meet.ensures.same.2
