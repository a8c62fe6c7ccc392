use Rattle.std.proofs.Common.{Err, ap, sym, subst}
use Rattle.cluster_steps.specs.declared.events.Event.TheVariants.{Append}
use Rattle.kept_log.specs.Kept.{OverStore}
use Rattle.node_state.specs.Nodes.{Follows}
use Rattle.phys_log.proofs.LogLaws.{log_fits}
use Rattle.node_state.proofs.KeepLaws.{append_falls}
use Rattle.node_state.proofs.bodies.Body.appends.Goals as goal

pub returns-clause-falls : goal.returns-clause-falls
returns-clause-falls g c = λ e.
    append_falls g.J.Plan.setting c.args.self.now.vote c.args.self.now.actor c.args.self.now.log c.append.new.self c.fall.new.self.log c.fall.new.self.vote c.fall.new.self.actor c.fall.new.self.under_way c.of-next.result c.args.vote c.args.entry c.requires.own c.requires.up c.requires.kept c.requires.numbers (c.requires.follows c.of-next.result c.of-next.ensures) (c.in-Err-StoreFault.ensures.fails (ap Err c.in-Err-StoreFault.field-0-is)) c.fall.ensures.log c.fall.ensures.falls c.fall.ensures.adds c.fall.ensures.own c.fall.ensures.under_way

pub append-requires-clause-fits : goal.append-requires-clause-fits
append-requires-clause-fits g c = log_fits c.args.self.now.log.entries c.args.entry (c.requires.follows c.of-next.result c.of-next.ensures).logged

pub happens-requires-clause-follows : goal.happens-requires-clause-follows
happens-requires-clause-follows g c =
    subst (λ es. Follows g.J.Plan.setting c.args.self.now.vote.node (Append c.of-next.result) c.args.vote es c.args.self.now.actor.seen) (sym (ap (λ (x : OverStore). x.entries) c.in-Ok.ensures.added)) (c.requires.follows c.of-next.result c.of-next.ensures)
