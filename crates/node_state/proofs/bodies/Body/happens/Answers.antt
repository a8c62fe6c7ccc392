use Rattle.node_state.specs.Nodes.{held}
use Rattle.node_state.proofs.CallLaws.{did_one, own_one}
use Rattle.node_state.proofs.bodies.Body.happens.Goals as goal

pub returns-clause-own : goal.returns-clause-own
returns-clause-own g c = own_one g.J.Plan.setting (held c.args.self.now.vote c.args.self.now.log.entries c.args.self.now.actor) (held c.args.vote c.args.self.now.log.entries c.step.new.self) c.args.event c.requires.is_its c.requires.follows c.step.ensures.adds c.step.ensures.legal c.step.ensures.same.0

pub returns-clause-did : goal.returns-clause-did
returns-clause-did g c = did_one (held c.args.self.now.vote c.args.self.now.log.entries c.args.self.now.actor) (held c.args.vote c.args.self.now.log.entries c.step.new.self) c.args.event c.step.result c.step.ensures.same.0 c.step.ensures.made c.step.ensures.adds c.step.ensures.same.1
