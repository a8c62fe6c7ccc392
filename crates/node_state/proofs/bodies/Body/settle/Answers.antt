use Rattle.std.proofs.Common.{refl}
use Rattle.cluster_steps.specs.declared.events.Event.TheVariants.{Settle}
use Rattle.node_state.specs.Nodes.{held}
use Rattle.node_state.proofs.CallLaws.{did_one}
use Rattle.node_state.proofs.SettleLaws.{own_settle, settle_may, settled}
use Rattle.node_state.proofs.bodies.Body.settle.Goals as goal

pub step-requires-clause-enabled : goal.step-requires-clause-enabled
step-requires-clause-enabled g c =
    settle_may g.J.Plan.setting c.args.self.now.vote c.args.self.now.log.entries c.args.self.now.actor.number c.args.self.now.actor.seen c.of-request.result c.of-told.result c.args.id.now c.args.decision.now c.requires.own.node c.requires.own.number_is c.of-request.ensures c.of-told.ensures c.requires.may

pub returns-clause-own : goal.returns-clause-own
returns-clause-own g c =
    own_settle g.J.Plan.setting (held c.args.self.now.vote c.args.self.now.log.entries c.args.self.now.actor) (held c.args.self.now.vote c.args.self.now.log.entries c.step.new.self) c.of-request.result c.of-told.result c.requires.own refl refl
    c.step.ensures.same.0 c.step.ensures.adds c.step.ensures.legal

pub returns-clause-settles : goal.returns-clause-settles
returns-clause-settles g c =
    settled (held c.args.self.now.vote c.args.self.now.log.entries c.args.self.now.actor) (held c.args.self.now.vote c.args.self.now.log.entries c.step.new.self) c.of-request.result c.of-told.result c.args.id.now c.args.decision.now c.of-request.ensures c.of-told.ensures
    (did_one (held c.args.self.now.vote c.args.self.now.log.entries c.args.self.now.actor) (held c.args.self.now.vote c.args.self.now.log.entries c.step.new.self) (Settle c.of-request.result c.of-told.result) c.step.result c.step.ensures.same.0 c.step.ensures.made c.step.ensures.adds c.step.ensures.same.1) refl refl
