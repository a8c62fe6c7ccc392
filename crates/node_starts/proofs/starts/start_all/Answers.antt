use Rattle.std.proofs.Common.{rules, ◌≡◌, ◌<◌, ◌≤◌, [], length, get_or, set, sym, subst, ◌∙◌, arith}
use Rattle.std.proofs.lemmas.Grind.{common_steps}
use Rattle.std.specs.Vec.Iter.{into_iter_items}
use Rattle.node_openings.specs.Judged.{admits_of}
use Rattle.node_state.specs.Stores.{Stored}
use Rattle.node_starts.specs.Order.{AllGoOn}
use Rattle.node_starts.specs.Starts.{AreKept, AreStarted, CanStart}
use Rattle.node_starts.specs.Turns.{TurnSafe}
use Rattle.node_starts.proofs.AdmitLaws.{first_below}
use Rattle.node_starts.proofs.LoopLaws.{Turns, all_did, all_in_order, all_so_far, all_started, can_start, first_turn, never_short, put_back, same_size, still_legal, turn_stops, whole_nodes}
use Rattle.node_starts.proofs.TurnLaws.{safe_operator}
use Rattle.node_starts.proofs.starts.start_all.Goals as goal

pub returns-in_err-reserve-clause-operator : goal.returns-in_err-reserve-clause-operator
returns-in_err-reserve-clause-operator g c =
    (c.reserve.ensures.same.0 ∙ c.requires.operator.0, still_legal g.J.Plan.setting c.args.operator.now.seen c.reserve.new.self.seen c.reserve.ensures.same.2 c.knows.ensures.legal)

pub nodes-init : goal.nodes-init
nodes-init g c =
    let G = g.J.Plan.setting in
    let all = admits_of 1 c.args.found.items in
    let o = c.reserve.new.self in
    let number = c.reserve.ensures.same.0 ∙ c.requires.operator.0 in
    let made = c.reserve.ensures.same.1 ∙ c.requires.operator.1 in
    subst (λ l. Turns G o all c.args.nodes.now.items l c.args.found.items (into_iter_items c.into_iter-stores.result) 0 o) (sym c.deref_mut-node-items.ensures.value)
    (first_turn G all c.args.nodes.now.items c.args.found.items (into_iter_items c.into_iter-stores.result) o c.into_iter-stores.ensures.rest c.requires.new
    (first_below G all o number made c.knows-2.ensures.own c.knows-2.ensures.legal) c.requires.few c.in_ok-reserve.ensures.room made)

pub unreachable-requires : goal.unreachable-requires
unreachable-requires g c =
    let below : c.nodes.node-index < length c.nodes.node-items = omega arith in
    let none : into_iter_items c.nodes.stores ≡ [] = first_of (search rules, grind (arith, common_steps)) in
    never_short g.J.Plan.setting c.reserve.new.self (admits_of 1 c.args.found.items) c.args.nodes.now.items c.nodes.node-items c.args.found.items (into_iter_items c.nodes.stores) c.nodes.node-index c.nodes.operator
    none c.nodes.invariant below

pub start_as-requires-clause-can : goal.start_as-requires-clause-can
start_as-requires-clause-can g c =
    subst (λ (y : Stored). CanStart g.J.Plan.setting c.in-Some.store c.nodes.operator y) c.node-item.is
    (can_start g.J.Plan.setting c.reserve.new.self c.args.nodes.now.items c.nodes.node-items c.args.found.items (into_iter_items c.nodes.stores) (into_iter_items c.next.new.self) c.in-Some.store c.nodes.node-index
    c.nodes.operator c.node-item.result c.node-item.is c.in-Some.ensures.cases.0 c.nodes.invariant c.requires.plan c.requires.fit)

pub returns-in_err-start_as-clause-kept : goal.returns-in_err-start_as-clause-kept
returns-in_err-start_as-clause-kept g c =
    let safe : TurnSafe g.J.Plan.setting c.in-Some.store c.nodes.operator c.node-item.result c.start_as.new.operator c.start_as.new.node =
    subst (λ (y : Stored). TurnSafe g.J.Plan.setting c.in-Some.store c.nodes.operator y c.start_as.new.operator c.start_as.new.node) (sym c.node-item.is) c.start_as.ensures.safe in
    put_back c.args.nodes.now.len c.args.nodes.now.items (set c.nodes.node-items c.nodes.node-index c.start_as.new.node) c.args.nodes.now.ok.0
    (turn_stops g.J.Plan.setting c.reserve.new.self (admits_of 1 c.args.found.items) c.args.nodes.now.items c.nodes.node-items c.args.found.items (into_iter_items c.nodes.stores) (into_iter_items c.next.new.self)
    c.in-Some.store c.nodes.node-index c.nodes.operator c.start_as.new.operator c.node-item.result c.start_as.new.node c.node-item.is c.in-Some.ensures.cases.0 c.nodes.invariant safe)

pub returns-in_err-start_as-clause-operator : goal.returns-in_err-start_as-clause-operator
returns-in_err-start_as-clause-operator g c =
    safe_operator g.J.Plan.setting c.in-Some.store c.nodes.operator c.start_as.new.operator (get_or c.nodes.node-items c.nodes.node-index c.node-item.result) c.start_as.new.node
    (subst (λ (y : Stored). CanStart g.J.Plan.setting c.in-Some.store c.nodes.operator y) c.node-item.is
    (can_start g.J.Plan.setting c.reserve.new.self c.args.nodes.now.items c.nodes.node-items c.args.found.items (into_iter_items c.nodes.stores) (into_iter_items c.next.new.self) c.in-Some.store c.nodes.node-index
    c.nodes.operator c.node-item.result c.node-item.is c.in-Some.ensures.cases.0 c.nodes.invariant c.requires.plan c.requires.fit))
    c.start_as.ensures.safe

pub returns-clause-started : goal.returns-clause-started
returns-clause-started g c =
    let G = g.J.Plan.setting in
    let all = admits_of 1 c.args.found.items in
    let over : length c.nodes.node-items ≤ c.nodes.node-index = omega arith in
    let back = whole_nodes c.args.nodes.now.len c.args.nodes.now.items c.nodes.node-items c.args.nodes.now.ok.0
    (same_size G c.reserve.new.self all c.args.nodes.now.items c.nodes.node-items c.args.found.items (into_iter_items c.nodes.stores) c.nodes.node-index c.nodes.operator c.nodes.invariant) in
    subst (λ l. AreStarted c.nodes.operator.seen c.args.found.items c.args.nodes.now.items l) (sym back)
    (all_started G c.reserve.new.self all c.args.nodes.now.items c.nodes.node-items c.args.found.items (into_iter_items c.nodes.stores) c.nodes.node-index c.nodes.operator c.nodes.invariant over)

pub returns-clause-did : goal.returns-clause-did
returns-clause-did g c =
    let over : length c.nodes.node-items ≤ c.nodes.node-index = omega arith in
    all_did g.J.Plan.setting c.reserve.new.self (admits_of 1 c.args.found.items) c.args.nodes.now.items c.nodes.node-items c.args.found.items (into_iter_items c.nodes.stores) c.nodes.node-index c.nodes.operator
    c.nodes.invariant over

pub returns-clause-order : goal.returns-clause-order
returns-clause-order g c =
    let G = g.J.Plan.setting in
    let all = admits_of 1 c.args.found.items in
    let back = whole_nodes c.args.nodes.now.len c.args.nodes.now.items c.nodes.node-items c.args.nodes.now.ok.0
    (same_size G c.reserve.new.self all c.args.nodes.now.items c.nodes.node-items c.args.found.items (into_iter_items c.nodes.stores) c.nodes.node-index c.nodes.operator c.nodes.invariant) in
    subst (λ l. AllGoOn c.args.operator.now c.args.nodes.now.items c.nodes.operator l) (sym back)
    (all_in_order G c.args.operator.now c.reserve.new.self all c.args.nodes.now.items c.nodes.node-items c.args.found.items (into_iter_items c.nodes.stores) c.nodes.node-index c.nodes.operator
    c.reserve.ensures.same.2 c.reserve.ensures.same.1 c.nodes.invariant)

pub returns-clause-kept : goal.returns-clause-kept
returns-clause-kept g c =
    let G = g.J.Plan.setting in
    let all = admits_of 1 c.args.found.items in
    let back = whole_nodes c.args.nodes.now.len c.args.nodes.now.items c.nodes.node-items c.args.nodes.now.ok.0
    (same_size G c.reserve.new.self all c.args.nodes.now.items c.nodes.node-items c.args.found.items (into_iter_items c.nodes.stores) c.nodes.node-index c.nodes.operator c.nodes.invariant) in
    subst (λ l. AreKept c.args.nodes.now.items l) (sym back)
    (all_so_far G c.reserve.new.self all c.args.nodes.now.items c.nodes.node-items c.args.found.items (into_iter_items c.nodes.stores) c.nodes.node-index c.nodes.operator c.nodes.invariant)
