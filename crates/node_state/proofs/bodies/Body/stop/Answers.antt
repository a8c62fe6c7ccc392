use Rattle.std.proofs.Common.{refl, ap}
use Rattle.std.specs.Prelude.{false}
use Rattle.cluster_steps.specs.declared.events.Event.TheVariants.{Down}
use Rattle.kept_log.specs.Kept.{OverStore}
use Rattle.node_state.specs.Nodes.{held}
use Rattle.node_state.specs.Restarts.{down_vote}
use Rattle.node_state.proofs.CallLaws.{did_one}
use Rattle.node_state.proofs.FallLaws.{falls, own_stop, stop_may}
use Rattle.node_state.proofs.KeepLaws.{kept_stopped, stop_returns}
use Rattle.node_state.proofs.bodies.Body.stop.Goals as goal

pub step-ticket-requires-clause-enabled : goal.step-ticket-requires-clause-enabled
step-ticket-requires-clause-enabled g c =
    stop_may g.J.Plan.setting c.args.self.now.vote c.args.self.now.log.entries c.args.self.now.actor.number c.args.self.now.actor.seen c.requires.own.node c.requires.own.number_is c.requires.up c.requires.told

pub returns-clause-own : goal.returns-clause-own
returns-clause-own g c =
    own_stop g.J.Plan.setting (held c.args.self.now.vote c.args.self.now.log.entries c.args.self.now.actor) (held (down_vote c.args.self.now.vote) c.stop.new.self.entries c.step-ticket.new.self) c.requires.own refl (ap (λ (x : OverStore). x.entries) c.stop.ensures.stopped)
    c.step-ticket.ensures.same.0 c.step-ticket.ensures.adds c.step-ticket.ensures.legal

pub returns-clause-kept : goal.returns-clause-kept
returns-clause-kept g c = kept_stopped c.args.self.now.vote (down_vote c.args.self.now.vote) c.args.self.now.log c.stop.new.self c.stop.new.self c.requires.kept (c.stop.ensures.stopped) refl refl

pub returns-clause-falls : goal.returns-clause-falls
returns-clause-falls g c =
    falls false (held c.args.self.now.vote c.args.self.now.log.entries c.args.self.now.actor) (held (down_vote c.args.self.now.vote) c.stop.new.self.entries c.step-ticket.new.self)
    (did_one (held c.args.self.now.vote c.args.self.now.log.entries c.args.self.now.actor) (held (down_vote c.args.self.now.vote) c.stop.new.self.entries c.step-ticket.new.self) (Down false) c.step-ticket.result
    c.step-ticket.ensures.same.0 c.step-ticket.ensures.made c.step-ticket.ensures.adds c.step-ticket.ensures.same.1) refl (ap (λ (x : OverStore). x.entries) c.stop.ensures.stopped)

pub returns-clause-returns : goal.returns-clause-returns
returns-clause-returns g c =
    stop_returns g.J.Plan.setting c.args.self.now.vote (down_vote c.args.self.now.vote) c.args.self.now.actor c.step-ticket.new.self c.args.self.now.log c.stop.new.self c.stop.new.self c.stop.new.self.entries _ c.requires.own c.requires.up c.requires.kept c.stop.ensures.stopped c.stop.ensures.holds refl
    c.step-ticket.ensures.adds refl (ap (λ (x : OverStore). x.entries) c.stop.ensures.stopped)
