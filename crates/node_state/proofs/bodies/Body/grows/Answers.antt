use Rattle.std.proofs.Common.{Err, ap}
use Rattle.phys_log.proofs.LogLaws.{log_fits}
use Rattle.node_state.proofs.KeepLaws.{grow_falls}
use Rattle.node_state.proofs.bodies.Body.grows.Goals as goal

pub returns-in-Err-StoreFault-clause-falls : goal.returns-in-Err-StoreFault-clause-falls
returns-in-Err-StoreFault-clause-falls g c = λ e.
    grow_falls g.J.Plan.setting c.args.self.now.vote c.args.self.now.actor c.args.self.now.log c.append.new.self c.fall.new.self.log c.fall.new.self.vote c.fall.new.self.actor c.fall.new.self.under_way c.args.generation c.args.length c.args.vote c.args.entry c.requires.own c.requires.up c.requires.kept c.requires.numbers c.requires.follows (c.in-Err-StoreFault.ensures.fails (ap Err c.in-Err-StoreFault.field-0-is)) c.fall.ensures.log c.fall.ensures.falls c.fall.ensures.adds c.fall.ensures.own c.fall.ensures.under_way

pub append-requires-clause-fits : goal.append-requires-clause-fits
append-requires-clause-fits g c = log_fits c.args.self.now.log.entries c.args.entry c.requires.follows.logged
