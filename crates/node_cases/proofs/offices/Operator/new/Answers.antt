use Rattle.node_cases.proofs.OfficeLaws.{office_new}
use Rattle.node_cases.proofs.offices.Operator.new.Goals as goal

pub invariant_of-result : goal.invariant_of-result
invariant_of-result g c =
    office_new g.J.Plan.setting c.args.actor c.args.orders.items c.requires.plan c.requires.actor.0 c.requires.actor.1 c.knows.ensures.own c.knows.ensures.legal
