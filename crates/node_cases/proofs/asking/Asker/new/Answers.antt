use Rattle.std.proofs.Common.{◌∙◌}
use Rattle.node_state.proofs.CallLaws.{begins_on}
use Rattle.node_cases.proofs.AskLaws.{asker_new}
use Rattle.node_cases.proofs.SeatLaws.{rests_begin, was_heard}
use Rattle.node_cases.proofs.asking.Asker.new.Goals as goal

pub invariant_of-result : goal.invariant_of-result
invariant_of-result g c =
    let third = rests_begin c.meet-2.new.self.number c.meet-2.new.self.seen c.meet-3.new.self.seen c.meet-3.ensures.more in
    let later = begins_on (rests_begin c.meet.new.self.number c.meet.new.self.seen c.meet-2.new.self.seen c.meet-2.ensures.more) third in
    asker_new g.J.Plan.setting c.args.operator.now.orders c.meet-3.new.self c.plan.ensures.plan
    (c.meet-3.ensures.same.0 ∙ (c.meet-2.ensures.same.0 ∙ (c.meet.ensures.same.0 ∙ c.requires.actor.0)))
    (c.meet-3.ensures.same.1 ∙ (c.meet-2.ensures.same.1 ∙ (c.meet.ensures.same.1 ∙ c.requires.actor.1))) c.knows.ensures.own
    (record {
      one = was_heard g.J.Plan.setting 1 c.args.one c.meet-3.new.self.seen (begins_on c.meet.ensures.note later) c.requires.one;
      two = was_heard g.J.Plan.setting 2 c.args.two c.meet-3.new.self.seen (begins_on c.meet-2.ensures.note third) c.requires.two;
      three = was_heard g.J.Plan.setting 3 c.args.three c.meet-3.new.self.seen c.meet-3.ensures.note c.requires.three;
    })
