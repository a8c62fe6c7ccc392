use Rattle.std.proofs.Common.{◌≡◌, ◌≤◌, arith, sym, subst, ap, ◌∙◌}
use Rattle.actor_trace.specs.Lists.{Begins}
use Rattle.election_core.specs.declared.votes.NodeVote.{NodeVote}
use Rattle.node_state.proofs.CallLaws.{begins_on}
use Rattle.node_cases.specs.Offices.{IsOrdered}
use Rattle.node_cases.specs.Seats.{WasUp}
use Rattle.node_cases.proofs.SeatLaws.{were_more, were_node}
use Rattle.node_cases.proofs.runs.order_at.Goals as goal

pub obeyed-requires-clause-waits : goal.obeyed-requires-clause-waits
obeyed-requires-clause-waits g c = rw c.in-Some.is at c.in_ok-found.ensures.waits

pub obeyed-requires-clause-made : goal.obeyed-requires-clause-made
obeyed-requires-clause-made g c = rw c.in-Some.is at c.in_ok-found.ensures.made

pub obeyed-requires-clause-its : goal.obeyed-requires-clause-its
obeyed-requires-clause-its g c =
    let its : c.in-Some.next.order.node ≡ c.vote.result.now.node = omega arith in
    let same : c.note_of-heard.new.seat.vote.node ≡ c.args.seat.now.vote.node = ap (λ (v : NodeVote). v.node) (c.note_of-heard.ensures.vote ∙ c.hear.ensures.same.vote) in
    let here : c.vote.result.now.node ≡ c.args.seat.now.vote.node = ap (λ (v : NodeVote). v.node) c.vote.ensures in
    let node : c.in-Some.next.order.node ≡ c.note_of-heard.new.seat.vote.node = its ∙ (here ∙ sym same) in
    (node, node ∙ sym c.note_of-heard.ensures.number)

pub obeyed-requires-clause-was_up : goal.obeyed-requires-clause-was_up
obeyed-requires-clause-was_up g c =
    let its : c.in-Some.next.order.node ≡ c.vote.result.now.node = omega arith in
    let low : 1 ≤ c.vote.result.now.node = omega arith in
    let high : c.vote.result.now.node ≤ 3 = omega arith in
    let on : Begins c.hear.new.self.actor.seen c.note_of-heard.new.seat.actor.seen = subst (λ t. Begins c.hear.new.self.actor.seen t) c.note_of-heard.ensures.note c.note_of-heard.ensures.more in
    let were = were_more g.J.Plan.setting c.tells-saw.result c.note_of-heard.new.seat.actor.seen (begins_on c.hear.ensures.heard on) c.tells-saw.ensures in
    subst (λ k. WasUp g.J.Plan.setting k c.note_of-heard.new.seat.actor.seen) (sym its)
    (were_node g.J.Plan.setting c.note_of-heard.new.seat.actor.seen c.vote.result.now.node were low high)

pub obeyed-requires-clause-ordered : goal.obeyed-requires-clause-ordered
obeyed-requires-clause-ordered g c =
    subst (λ t. IsOrdered g.J.Plan.setting c.in-Some.next.order t c.in-Some.next.note) c.note_of-heard.ensures.note (rw c.in-Some.is at c.in_ok-found.ensures.ordered)
