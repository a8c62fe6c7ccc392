use Rattle.std.proofs.Common.{◌≡◌, arith, ap}
use Rattle.election_core.specs.declared.votes.NodeVote.{NodeVote}
use Rattle.node_cases.proofs.seats.ship_from.Goals as goal

pub ship-requires-clause-other : goal.ship-requires-clause-other
ship-requires-clause-other g c =
    λ e. (let own : c.vote.result.now.node ≡ c.args.seat.now.vote.node = ap (λ (v : NodeVote). v.node) c.vote.ensures in let same : c.args.to ≡ c.args.seat.now.vote.node = e in absurd (omega arith))

pub ship-requires-clause-to : goal.ship-requires-clause-to
ship-requires-clause-to g c = let three : g.J.Plan.setting.nodes ≡ 3 = c.plan.ensures.nodes in (omega arith, omega arith)
