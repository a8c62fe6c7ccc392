use Rattle.std.proofs.Common.{ap, ◌∙◌}
use Rattle.std.specs.Prelude.{Some}
use Rattle.operator_steps.proofs.StepLaws.{did_next}
use Rattle.operator_steps.proofs.steps.do_next.Goals as goal

pub returns-clause-did : goal.returns-clause-did
returns-clause-did g c =
    did_next g.J.Plan.setting c.args.operator.now.number c.step.new.self.number c.note-note.new.self.number c.args.doing c.replace.new.dest c.args.operator.now c.note-note.new.self c.step.new.self.seen c.step.ensures.adds c.note-note.ensures.more c.requires.number (c.step.ensures.same.0 ∙ c.requires.number)
    (c.note-note.ensures.same.0 ∙ (c.step.ensures.same.0 ∙ c.requires.number)) c.step.ensures.legal c.note-note.ensures.legal c.knows.ensures.own (c.in-None.ensures.after ∙ ap Some c.note-note.ensures.note)
