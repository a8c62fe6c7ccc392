use Rattle.std.proofs.Common.{refl}
use Rattle.std.specs.Prelude.{true}
use Rattle.node_state.specs.Nodes.{held}
use Rattle.node_state.specs.Restarts.{down_vote}
use Rattle.node_state.proofs.FallLaws.{falls, fault_follows}
use Rattle.node_state.proofs.bodies.Body.fall.Goals as goal

pub happens-requires-clause-follows : goal.happens-requires-clause-follows
happens-requires-clause-follows g c =
    fault_follows g.J.Plan.setting c.args.self.now.vote (down_vote c.args.self.now.vote) c.args.self.now.log.entries c.args.self.now.actor.seen c.requires.own.node refl

pub returns-clause-falls : goal.returns-clause-falls
returns-clause-falls g c =
    falls true (held c.args.self.now.vote c.args.self.now.log.entries c.args.self.now.actor) (held c.happens.new.self.vote c.happens.new.self.log.entries c.happens.new.self.actor) c.happens.ensures.did c.happens.ensures.vote c.happens.ensures.entries
