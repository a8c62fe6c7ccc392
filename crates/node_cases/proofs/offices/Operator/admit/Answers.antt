use Rattle.std.proofs.Common.{◌<◌, sym, subst}
use Rattle.node_cases.specs.Offices.{Office}
use Rattle.node_cases.proofs.OfficeLaws.{admitted_there, may_admit, office_admits, office_rests, office_same}
use Rattle.node_cases.proofs.offices.Operator.admit.Goals as goal

pub step-requires-clause-enabled : goal.step-requires-clause-enabled
step-requires-clause-enabled g c =
    let above : c.self.inside.admitted < c.args.node = subst (λ (o : Office). o.admitted < c.args.node) (sym c.self.view_is) c.requires.next in
    may_admit g.J.Plan.setting c.reserve.new.self c.self.inside.admitted c.args.node c.self.inside.orders.items c.self.inside.done c.self.inside.ordered
    (office_same g.J.Plan.setting c.self.inside.actor c.reserve.new.self c.self.inside.admitted c.self.inside.orders.items c.self.inside.done c.self.inside.ordered c.self.invariant
    c.reserve.ensures.same.0 c.reserve.ensures.same.2) above

pub invariant_of-self : goal.invariant_of-self
invariant_of-self g c =
    office_same g.J.Plan.setting c.self.inside.actor c.reserve.new.self c.self.inside.admitted c.self.inside.orders.items c.self.inside.done c.self.inside.ordered c.self.invariant
    c.reserve.ensures.same.0 c.reserve.ensures.same.2

pub invariant_of-self-2 : goal.invariant_of-self-2
invariant_of-self-2 g c =
    let above : c.self.inside.admitted < c.args.node = subst (λ (o : Office). o.admitted < c.args.node) (sym c.self.view_is) c.requires.next in
    let room = office_same g.J.Plan.setting c.self.inside.actor c.reserve.new.self c.self.inside.admitted c.self.inside.orders.items c.self.inside.done c.self.inside.ordered c.self.invariant
    c.reserve.ensures.same.0 c.reserve.ensures.same.2 in
    let admits = office_admits g.J.Plan.setting c.reserve.new.self c.step.new.self c.self.inside.admitted c.args.node c.self.inside.orders.items c.self.inside.done c.self.inside.ordered room above
    c.step.ensures.same.0 c.step.ensures.adds c.step.ensures.legal in
    office_rests g.J.Plan.setting c.step.new.self c.note.new.self c.args.node c.self.inside.orders.items c.self.inside.done c.self.inside.ordered admits c.note.ensures.same.0 c.note.ensures.more
    c.note.ensures.legal

pub returns-clause-there : goal.returns-clause-there
returns-clause-there g c =
    admitted_there g.J.Plan.setting c.args.node c.reserve.new.self.number c.step.new.self.number c.reserve.new.self.seen c.step.new.self.seen c.note.new.self.seen c.note.result
    c.step.ensures.adds c.note.ensures.more c.note.ensures.note
