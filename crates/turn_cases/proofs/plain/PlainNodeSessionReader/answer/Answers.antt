use Rattle.std.proofs.Common.{◌∙◌, refl, sym}
use Rattle.turn_cases.specs.Plain.{rows_at, world_in}
use Rattle.turn_cases.proofs.plain.PlainNodeSessionReader.answer.Goals as goal

pub returns-in-Ok-clause-answered : goal.returns-in-Ok-clause-answered
returns-in-Ok-clause-answered c =
    c.in-Ok.ensures.answered (world_in c.args.self.now) refl
    ((λ j. (rows_at (sym c.as_slice.ensures j) (sym c.begin.ensures j)).tables) ∙ sym c.in_ok-rows.ensures.versions)
