use Rattle.std.proofs.Common.{ap, sym}
use Rattle.cdb_values.specs.Rows.{Rows}
use Rattle.script_play.proofs.reads.answer_undone.Goals as goal

pub returns-clause-answered : goal.returns-clause-answered
returns-clause-answered g c = λ w same stands.
    c.answer_over-answer.ensures.answered w same (sym (ap (λ (r : Rows). r.tables) (c.new-source.ensures.rows (w.seen.at c.args.session.now.begin) stands)))
