use Rattle.std.proofs.Common.{◌∙◌}
use Rattle.operator_steps.proofs.StepLaws.{is_ready}
use Rattle.operator_steps.proofs.steps.get_ready.Goals as goal

pub returns-clause-ready : goal.returns-clause-ready
returns-clause-ready g c =
    is_ready g.J.Plan.setting c.reserve.new.self.number c.catch_up.new.operator.number c.args.last.now c.reserve.new.self.seen c.catch_up.new.operator.made c.args.operator.now c.catch_up.new.operator c.catch_up.ensures.more (c.reserve.ensures.same.0 ∙ c.requires.number) c.reserve.ensures.same.2
    c.catch_up.ensures.legal c.catch_up.ensures.heard c.knows.ensures.own (c.catch_up.ensures.number ∙ (c.reserve.ensures.same.0 ∙ c.requires.number)) (c.catch_up.ensures.made ∙ c.reserve.ensures.same.1)
