use Rattle.std.proofs.Common.{rules, subst}
use Rattle.node_cases.specs.Seats.{WasUp}
use Rattle.node_cases.proofs.runs.moved.Goals as goal

pub start_by-requires-clause-order : goal.start_by-requires-clause-order
start_by-requires-clause-order g c = (c.args.order, search rules, c.requires.its.1, c.requires.ordered)

pub start_by-requires-clause-was_up : goal.start_by-requires-clause-was_up
start_by-requires-clause-was_up g c = subst (λ k. WasUp g.J.Plan.setting k c.args.seat.now.actor.seen) c.requires.its.0 c.requires.was_up

pub stop_by-requires : goal.stop_by-requires
stop_by-requires g c = (c.args.order, search rules, c.requires.its.1, c.requires.ordered)
