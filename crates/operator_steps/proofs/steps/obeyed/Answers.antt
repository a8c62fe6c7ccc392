use Rattle.operator_steps.proofs.StepLaws.{in_turn, may_next, obeys_now, obeyed_at}
use Rattle.operator_steps.proofs.steps.obeyed.Goals as goal

pub do_next-requires-clause-may : goal.do_next-requires-clause-may
do_next-requires-clause-may g c = may_next g.J.Plan.setting _ c.args.last.now c.args.operator.now c.get_ready.new.operator c.in_ok-get_ready.ensures.ready (obeys_now g.J.Plan.setting c.args.operator.now.seen c.requires.due)

pub returns-clause-does : goal.returns-clause-does
returns-clause-does g c = in_turn g.J.Plan.setting _ c.args.last.now _ c.args.operator.now c.get_ready.new.operator c.do_next.new.operator c.in_ok-get_ready.ensures.ready c.do_next.ensures.did

pub returns-clause-at : goal.returns-clause-at
returns-clause-at g c = obeyed_at g.J.Plan.setting c.args.last.now _ c.args.operator.now c.do_next.new.operator (in_turn g.J.Plan.setting _ c.args.last.now _ c.args.operator.now c.get_ready.new.operator c.do_next.new.operator c.in_ok-get_ready.ensures.ready c.do_next.ensures.did)
