use Rattle.std.proofs.Common.{ap, ◌∙◌}
use Rattle.election_core.specs.declared.votes.NodeVote.{NodeVote}
use Rattle.node_state.specs.Stores.{held_of}
use Rattle.node_state.proofs.CallLaws.{before_then, begins_on}
use Rattle.node_cases.proofs.WakeLaws.{stop_told}
use Rattle.node_cases.proofs.seats.stop_by.Goals as goal

pub stop-ticket-requires-clause-told : goal.stop-ticket-requires-clause-told
stop-ticket-requires-clause-told g c =
    stop_told g.J.Plan.setting c.requires.0 (held_of c.args.seat.now) (held_of c.hear.new.self) c.args.told c.knows-2.ensures.own c.knows.ensures.made c.knows-2.ensures.made
    (before_then (held_of c.args.seat.now) (held_of c.reserve.new.self) (held_of c.hear.new.self) c.reserve.ensures.same c.hear.ensures.same) c.requires.1
    c.requires.2 c.requires.3 c.hear.ensures.heard

pub returns-clause-down : goal.returns-clause-down
returns-clause-down g c = ap (λ (v : NodeVote). v.up) c.stop-ticket.ensures.falls.vote

pub returns-clause-node : goal.returns-clause-node
returns-clause-node g c = ap (λ (v : NodeVote). v.node) c.stop-ticket.ensures.falls.vote ∙ ap (λ (v : NodeVote). v.node) (c.hear.ensures.same.vote ∙ c.reserve.ensures.same.vote)

pub returns-clause-heard : goal.returns-clause-heard
returns-clause-heard g c = begins_on c.hear.ensures.heard c.stop-ticket.ensures.falls.did.more
