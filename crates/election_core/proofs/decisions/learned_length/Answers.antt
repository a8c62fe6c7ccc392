use Rattle.std.proofs.Common.{arith, ◌≤◌}
use Rattle.election_core.proofs.decisions.learned_length.Goals as goal
use Rattle.election_core.proofs.decisions.learned_length.Goals.{then-best-eq0-via-then-best-eq0, then-best-eq0-via-else-best-eq0+then-best-vote}

pub returns-then-best-eq0-clause-none : goal.returns-then-best-eq0-clause-none
returns-then-best-eq0-clause-none c = λ e m. (
    let le = c.greatest_acknowledged-best.ensures.greatest e m.5 in
    let one : 1 ≤ e = m.3 in
    let low : c.args.vote.now.durable ≤ e = m.4 in
    elim c.then-best-eq0.branch [
      | then-best-eq0-via-then-best-eq0 w ↦ (let z = w.if-best-eq0.true in absurd (omega arith))
      | then-best-eq0-via-else-best-eq0+then-best-vote w ↦ (let z = w.if-best-vote.true in absurd (omega arith))
    ])

pub returns-clause-greatest : goal.returns-clause-greatest
returns-clause-greatest c = λ e m. c.greatest_acknowledged-best.ensures.greatest e m.5
