use Rattle.node_state.proofs.StartLaws.{stored_again}
use Rattle.node_state.proofs.bodies.Body.fall_again.Goals as goal

pub returns-clause-node : goal.returns-clause-node
returns-clause-node g c =
    stored_again g.J.Plan.setting c.args.self.now.vote c.fall.new.self.vote c.fall.new.self.log.entries c.args.self.now.actor c.fall.new.self.actor c.args.self.now.log c.fall.new.self.log c.args.self.now.under_way c.fall.new.self.under_way
    c.requires.node c.requires.down c.fall.ensures.adds c.fall.ensures.own c.fall.ensures.falls.vote c.fall.ensures.falls.entries c.fall.ensures.log c.fall.ensures.under_way
