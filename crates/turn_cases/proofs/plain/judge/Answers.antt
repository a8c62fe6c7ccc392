use Rattle.std.proofs.Common.{◌∙◌, sym}
use Rattle.turn_cases.proofs.KeptLemmas.{asked_judged}
use Rattle.turn_cases.proofs.plain.judge.Goals as goal

pub returns : goal.returns
returns c =
    asked_judged c.decide-decided.result c.args.schema.now c.args.entries.now c.args.session.now c.in-Some.request
    c.requires.some (sym c.in-Some.is ∙ c.in_ok-request.ensures) c.decide-decided.ensures
