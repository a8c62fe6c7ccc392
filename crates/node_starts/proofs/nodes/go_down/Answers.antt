use Rattle.node_openings.specs.declared.found.StoreFound.TheVariants as store
use Rattle.node_starts.proofs.TurnLaws.{down_over, down_safe}
use Rattle.node_starts.proofs.nodes.go_down.Goals as goal

pub returns-clause-safe : goal.returns-clause-safe
returns-clause-safe g c =
    down_safe g.J.Plan.setting store.Failed c.args.operator.now c.inform.new.operator c.learn.new.operator c.args.node.now c.reserve.new.self c.inform.new.node c.fail_unread.new.self c.learn.new.node
    c.reserve.ensures.over c.inform.ensures c.fail_unread.ensures.over c.learn.ensures

pub returns-clause-over : goal.returns-clause-over
returns-clause-over g c =
    down_over g.J.Plan.setting c.args.operator.now c.inform.new.operator c.learn.new.operator c.args.node.now c.reserve.new.self c.inform.new.node c.fail_unread.new.self c.learn.new.node
    c.requires.can c.reserve.ensures.same c.reserve.ensures.over c.inform.ensures c.fail_unread.ensures.falls c.fail_unread.ensures.over c.learn.ensures
