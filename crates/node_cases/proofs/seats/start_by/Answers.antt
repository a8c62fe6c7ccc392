use Rattle.std.proofs.Common.{rules, ◌≡◌, sym, subst, ap, ◌∙◌}
use Rattle.std.specs.Prelude.{false}
use Rattle.election_core.specs.declared.votes.NodeVote.{NodeVote}
use Rattle.node_state.specs.Stores.{held_of}
use Rattle.node_state.proofs.CallLaws.{begins_on}
use Rattle.node_cases.specs.Seats.{WasUp}
use Rattle.node_cases.proofs.SeatLaws.{started_is, was_heard}
use Rattle.node_cases.proofs.WakeLaws.{start_told}
use Rattle.node_cases.proofs.seats.start_by.Goals as goal

pub start-requires-clause-was_up : goal.start-requires-clause-was_up
start-requires-clause-was_up g c =
    subst (λ k. WasUp g.J.Plan.setting k c.hear.new.self.actor.seen) (sym (ap (λ (v : NodeVote). v.node) c.hear.ensures.same.vote))
    (was_heard g.J.Plan.setting c.args.seat.now.vote.node c.args.seat.now.actor.seen c.hear.new.self.actor.seen c.hear.ensures.same.did.more c.requires.was_up)

pub start-requires-clause-told : goal.start-requires-clause-told
start-requires-clause-told g c =
    start_told g.J.Plan.setting c.requires.order.0 (held_of c.args.seat.now) (held_of c.hear.new.self) c.args.told c.knows-2.ensures.own c.knows.ensures.made c.knows-2.ensures.made
    c.hear.ensures.same c.requires.order.1 c.requires.order.2 c.requires.order.3 c.hear.ensures.heard

pub returns-clause-up : goal.returns-clause-up
returns-clause-up g c =
    let down : c.hear.new.self.vote.up ≡ false = search rules in
    c.came_up.ensures ∙ (started_is c.in_ok-started.started (held_of c.hear.new.self) (held_of c.start.new.self) down c.in_ok-started.ensures.started).0

pub returns-clause-node : goal.returns-clause-node
returns-clause-node g c =
    let down : c.hear.new.self.vote.up ≡ false = search rules in
    (started_is c.in_ok-started.started (held_of c.hear.new.self) (held_of c.start.new.self) down c.in_ok-started.ensures.started).1 ∙ ap (λ (v : NodeVote). v.node) c.hear.ensures.same.vote

pub returns-clause-heard : goal.returns-clause-heard
returns-clause-heard g c =
    let down : c.hear.new.self.vote.up ≡ false = search rules in
    begins_on c.hear.ensures.heard (started_is c.in_ok-started.started (held_of c.hear.new.self) (held_of c.start.new.self) down c.in_ok-started.ensures.started).2
