use Rattle.std.proofs.Common.{rules, ◌≡◌, ◌+◌, ◌≤◌, arith, refl, subst}
use Rattle.std.specs.Prelude.{false}
use Rattle.node_cases.specs.Offices.{IsOffice}
use Rattle.node_cases.proofs.OfficeLaws.{office_rests, office_same}
use Rattle.node_cases.proofs.OrderLaws.{is_ordered, may_order, office_orders, order_there}
use Rattle.node_cases.proofs.offices.Operator.order.Goals as goal

pub step-requires-clause-enabled : goal.step-requires-clause-enabled
step-requires-clause-enabled g c =
    let off : c.self.inside.ordered ≡ false = search rules in
    let at = order_there c.deref.result.now c.self.inside.orders.items c.self.inside.done c.in-Some.next.now c.deref.ensures.value c.in-Some.ensures.lookup.3.0 c.in-Some.ensures.lookup.1 in
    let start = subst (λ w. IsOffice g.J.Plan.setting (record { actor = c.self.inside.actor; admitted = c.self.inside.admitted; orders = c.self.inside.orders.items; done = c.self.inside.done; ordered = w })) off
    c.self.invariant in
    let room = office_same g.J.Plan.setting c.self.inside.actor c.reserve.new.self c.self.inside.admitted c.self.inside.orders.items c.self.inside.done false start c.reserve.ensures.same.0
    c.reserve.ensures.same.2 in
    let met = office_rests g.J.Plan.setting c.reserve.new.self c.meet.new.self c.self.inside.admitted c.self.inside.orders.items c.self.inside.done false room c.meet.ensures.same.0 c.meet.ensures.more
    c.meet.ensures.legal in
    may_order g.J.Plan.setting c.meet.new.self c.self.inside.admitted c.self.inside.orders.items c.self.inside.done c.in-Some.next.now met at

pub invariant_of-self : goal.invariant_of-self
invariant_of-self g c =
    office_same g.J.Plan.setting c.self.inside.actor c.reserve.new.self c.self.inside.admitted c.self.inside.orders.items c.self.inside.done c.self.inside.ordered c.self.invariant
    c.reserve.ensures.same.0 c.reserve.ensures.same.2

pub invariant_of-self-2 : goal.invariant_of-self-2
invariant_of-self-2 g c =
    let off : c.self.inside.ordered ≡ false = search rules in
    let start = subst (λ w. IsOffice g.J.Plan.setting (record { actor = c.self.inside.actor; admitted = c.self.inside.admitted; orders = c.self.inside.orders.items; done = c.self.inside.done; ordered = w })) off
    c.self.invariant in
    let room = office_same g.J.Plan.setting c.self.inside.actor c.reserve.new.self c.self.inside.admitted c.self.inside.orders.items c.self.inside.done false start c.reserve.ensures.same.0
    c.reserve.ensures.same.2 in
    let met = office_rests g.J.Plan.setting c.reserve.new.self c.meet.new.self c.self.inside.admitted c.self.inside.orders.items c.self.inside.done false room c.meet.ensures.same.0 c.meet.ensures.more
    c.meet.ensures.legal in
    let orders = office_orders g.J.Plan.setting c.meet.new.self c.step.new.self c.self.inside.admitted c.self.inside.orders.items c.self.inside.done met c.step.ensures.same.0 c.step.ensures.adds
    c.step.ensures.legal in
    office_rests g.J.Plan.setting c.step.new.self c.note-note.new.self c.self.inside.admitted c.self.inside.orders.items c.self.inside.done _ orders c.note-note.ensures.same.0 c.note-note.ensures.more
    c.note-note.ensures.legal

pub returns-clause-ordered : goal.returns-clause-ordered
returns-clause-ordered g c =
    let off : c.self.inside.ordered ≡ false = search rules in
    let at = order_there c.deref.result.now c.self.inside.orders.items c.self.inside.done c.in-Some.next.now c.deref.ensures.value c.in-Some.ensures.lookup.3.0 c.in-Some.ensures.lookup.1 in
    let start = subst (λ w. IsOffice g.J.Plan.setting (record { actor = c.self.inside.actor; admitted = c.self.inside.admitted; orders = c.self.inside.orders.items; done = c.self.inside.done; ordered = w })) off
    c.self.invariant in
    let room = office_same g.J.Plan.setting c.self.inside.actor c.reserve.new.self c.self.inside.admitted c.self.inside.orders.items c.self.inside.done false start c.reserve.ensures.same.0
    c.reserve.ensures.same.2 in
    let met = office_rests g.J.Plan.setting c.reserve.new.self c.meet.new.self c.self.inside.admitted c.self.inside.orders.items c.self.inside.done false room c.meet.ensures.same.0 c.meet.ensures.more
    c.meet.ensures.legal in
    is_ordered g.J.Plan.setting c.meet.new.self c.step.new.self c.self.inside.admitted c.self.inside.orders.items c.self.inside.done c.in-Some.next.now c.step.new.self.number c.args.heard
    c.note-note.new.self.seen c.note-note.result met at c.meet.ensures.note c.step.ensures.adds c.step.ensures.legal c.note-note.ensures.more c.note-note.ensures.note

pub returns-clause-waits : goal.returns-clause-waits
returns-clause-waits g c =
    let at = order_there c.deref.result.now c.self.inside.orders.items c.self.inside.done c.in-Some.next.now c.deref.ensures.value c.in-Some.ensures.lookup.3.0 c.in-Some.ensures.lookup.1 in
    let two : 2 ≤ c.reserve.new.self.room = search rules in
    let met : c.meet.new.self.room ≡ c.reserve.new.self.room = c.meet.ensures.same.2 in
    let step : c.step.new.self.room + 1 ≡ c.meet.new.self.room = c.step.ensures.same.1 in
    let note : c.note-note.new.self.room ≡ c.step.new.self.room = c.note-note.ensures.same.2 in
    record { ordered = refl; next = at; room = omega arith }
