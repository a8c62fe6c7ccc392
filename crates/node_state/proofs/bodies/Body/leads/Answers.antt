use Rattle.std.proofs.Common.{Err, ap}
use Rattle.node_state.proofs.KeepLaws.{lead_falls}
use Rattle.node_state.proofs.bodies.Body.leads.Goals as goal

pub returns-in-Err-StoreFault-clause-falls : goal.returns-in-Err-StoreFault-clause-falls
returns-in-Err-StoreFault-clause-falls g c = λ e.
    lead_falls g.J.Plan.setting c.args.self.now.vote c.args.self.now.actor c.args.self.now.log c.accept.new.self c.fall.new.self.log c.fall.new.self.vote c.fall.new.self.actor c.fall.new.self.under_way c.args.generation c.args.vote c.requires.own c.requires.up c.requires.kept c.requires.above c.requires.follows (c.in-Err-StoreFault.ensures.fails (ap Err c.in-Err-StoreFault.field-0-is)) c.fall.ensures.log c.fall.ensures.falls c.fall.ensures.adds c.fall.ensures.own c.fall.ensures.under_way
