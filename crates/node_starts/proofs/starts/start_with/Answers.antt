use Rattle.node_openings.specs.declared.found.StoreFound.TheVariants as store
use Rattle.node_starts.proofs.TurnLaws.{does_fit, knows_admission, still_new, whole_over, whole_safe, whole_unopened}
use Rattle.node_starts.proofs.starts.start_with.Goals as goal

pub admit-requires-clause-fit : goal.admit-requires-clause-fit
admit-requires-clause-fit g c = does_fit g.J.Plan.setting c.args.log c.args.operator.now c.args.node.now c.number_of.result c.number_of.ensures c.requires.can

pub come_up-requires-clause-new : goal.come_up-requires-clause-new
come_up-requires-clause-new g c =
    still_new g.J.Plan.setting (store.Whole c.args.log) c.args.operator.now c.admit.new.operator c.inform.new.operator c.args.node.now c.inform.new.node c.requires.can c.inform.ensures

pub come_up-requires-clause-admitted : goal.come_up-requires-clause-admitted
come_up-requires-clause-admitted g c =
    knows_admission g.J.Plan.setting c.args.log c.args.operator.now c.admit.new.operator c.inform.new.operator c.args.node.now c.inform.new.node c.number_of.result c.number_of.ensures c.admit.ensures c.inform.ensures

pub returns-in_err-come_up-clause-safe : goal.returns-in_err-come_up-clause-safe
returns-in_err-come_up-clause-safe g c =
    whole_unopened g.J.Plan.setting c.args.log c.args.operator.now c.admit.new.operator c.inform.new.operator c.args.node.now c.inform.new.node c.come_up.new.node c.number_of.result c.number_of.ensures
    c.admit.ensures c.inform.ensures c.come_up.ensures.kept

pub returns-clause-safe : goal.returns-clause-safe
returns-clause-safe g c =
    whole_safe g.J.Plan.setting c.args.log c.args.operator.now c.admit.new.operator c.inform.new.operator c.learn.new.operator c.args.node.now c.inform.new.node c.come_up.new.node c.learn.new.node
    c.number_of.result c.number_of.ensures c.admit.ensures c.inform.ensures c.come_up.ensures.kept c.learn.ensures

pub returns-clause-over : goal.returns-clause-over
returns-clause-over g c =
    whole_over g.J.Plan.setting c.args.log c.args.operator.now c.admit.new.operator c.inform.new.operator c.learn.new.operator c.args.node.now c.inform.new.node c.come_up.new.node c.learn.new.node
    c.number_of.result c.requires.can c.knows.ensures.own c.number_of.ensures c.admit.ensures c.inform.ensures c.in_ok-come_up.ensures.up c.learn.ensures
