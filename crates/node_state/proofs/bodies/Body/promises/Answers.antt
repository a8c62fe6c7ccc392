use Rattle.std.proofs.Common.{Err, ap}
use Rattle.node_state.proofs.KeepLaws.{promise_falls}
use Rattle.node_state.proofs.bodies.Body.promises.Goals as goal

pub returns-clause-falls : goal.returns-clause-falls
returns-clause-falls g c = λ e.
    promise_falls g.J.Plan.setting c.args.self.now.vote c.args.self.now.actor c.args.self.now.log c.promise.new.self c.fall.new.self.log c.fall.new.self.vote c.fall.new.self.actor c.fall.new.self.under_way c.args.generation c.requires.own c.requires.up c.requires.kept c.requires.above (c.in-Err-StoreFault.ensures.fails (ap Err c.in-Err-StoreFault.field-0-is)) c.fall.ensures.log c.fall.ensures.falls c.fall.ensures.adds c.fall.ensures.own
