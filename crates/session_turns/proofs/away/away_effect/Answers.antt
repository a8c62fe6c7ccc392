use Rattle.std.proofs.Common.{subst, sym}
use Rattle.sql_run.specs.Views.{kind_in}
use Rattle.session_turns.specs.Away.{turn_away, IsAwayEffect}
use Rattle.session_turns.specs.Views.{doing_in}
use Rattle.session_turns.specs.declared.states.InTransaction.{InTransaction}
use Rattle.session_turns.proofs.away.away_effect.Goals as goal

pub returns-in-Open : goal.returns-in-Open
returns-in-Open c =
    subst (λ (d : InTransaction). IsAwayEffect c.lost.result (turn_away c.args.away c.args.state.number c.args.state.level (kind_in c.args.kind) (doing_in d))) (sym c.in-Open.is)
    (c.lost.ensures c.in-Open.session.begin c.in-Open.session.ops c.in-Open.session.genids c.in-Open.session.ranges)

pub returns-in-Aborted : goal.returns-in-Aborted
returns-in-Aborted c =
    subst (λ (d : InTransaction). IsAwayEffect c.skipped.result (turn_away c.args.away c.args.state.number c.args.state.level (kind_in c.args.kind) (doing_in d))) (sym c.in-Aborted.is) (c.skipped.ensures c.args.away)
