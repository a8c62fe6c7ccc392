use Rattle.std.proofs.Common.{◌≡◌, ◌≤◌, arith, sym, subst, ap, ◌∙◌}
use Rattle.std.specs.Prelude.{true, false}
use Rattle.node_cases.specs.Offices.{IsOffice, Office, Waits}
use Rattle.node_cases.proofs.OfficeLaws.{office_rests}
use Rattle.node_cases.proofs.OrderLaws.{may_obey, office_obeys}
use Rattle.node_cases.proofs.offices.Operator.obeyed.Goals as goal

pub step-requires-clause-room : goal.step-requires-clause-room
step-requires-clause-room g c =
    let waits = subst (λ o. Waits c.args.order o) (sym c.self.view_is) c.requires.waits in
    let same : c.meet.new.self.room ≡ c.self.inside.actor.room = c.meet.ensures.same.2 in
    let room : 1 ≤ c.self.inside.actor.room = waits.room in
    omega arith

pub step-requires-clause-enabled : goal.step-requires-clause-enabled
step-requires-clause-enabled g c =
    let waits = subst (λ o. Waits c.args.order o) (sym c.self.view_is) c.requires.waits in
    let start = subst (λ w. IsOffice g.J.Plan.setting (record { actor = c.self.inside.actor; admitted = c.self.inside.admitted; orders = c.self.inside.orders.items; done = c.self.inside.done; ordered = w }))
    waits.ordered c.self.invariant in
    let met = office_rests g.J.Plan.setting c.self.inside.actor c.meet.new.self c.self.inside.admitted c.self.inside.orders.items c.self.inside.done true start c.meet.ensures.same.0 c.meet.ensures.more
    c.meet.ensures.legal in
    may_obey g.J.Plan.setting c.meet.new.self c.self.inside.admitted c.self.inside.orders.items c.self.inside.done c.args.order c.requires.known.0 c.args.told met waits.next c.meet.ensures.legal
    c.knows.ensures.own c.requires.known.2 (c.requires.known.1 ∙ (sym (ap (λ (o : Office). o.actor.made) c.self.view_is) ∙ sym c.meet.ensures.same.1)) c.meet.ensures.note c.requires.done

pub invariant_of-self : goal.invariant_of-self
invariant_of-self g c =
    let waits = subst (λ o. Waits c.args.order o) (sym c.self.view_is) c.requires.waits in
    let start = subst (λ w. IsOffice g.J.Plan.setting (record { actor = c.self.inside.actor; admitted = c.self.inside.admitted; orders = c.self.inside.orders.items; done = c.self.inside.done; ordered = w }))
    waits.ordered c.self.invariant in
    let met = office_rests g.J.Plan.setting c.self.inside.actor c.meet.new.self c.self.inside.admitted c.self.inside.orders.items c.self.inside.done true start c.meet.ensures.same.0 c.meet.ensures.more
    c.meet.ensures.legal in
    let obeys = office_obeys g.J.Plan.setting c.meet.new.self c.step.new.self c.self.inside.admitted c.self.inside.orders.items c.self.inside.done c.args.order met waits.next c.step.ensures.same.0
    c.step.ensures.adds c.step.ensures.legal in
    subst (λ d. IsOffice g.J.Plan.setting (record { actor = c.step.new.self; admitted = c.self.inside.admitted; orders = c.self.inside.orders.items; done = d; ordered = false })) (sym c.in-Some.ensures.1) obeys
