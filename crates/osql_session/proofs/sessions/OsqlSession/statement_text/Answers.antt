use Rattle.std.proofs.Common.{◌≡◌, subst}
use Rattle.std.specs.Prelude.{IfOk}
use Rattle.sql_answer.specs.Answers.{Meaning}
use Rattle.sql_run.specs.Texts.{answer_to}
use Rattle.sql_run.specs.Views.{text_in}
use Rattle.osql_session.proofs.CourseLemmas.{goes_on_by_text}
use Rattle.osql_session.proofs.sessions.OsqlSession.statement_text.Goals as goal

pub returns-clause-replies : goal.returns-clause-replies
returns-clause-replies g c =
    rw c.with_no.ensures (subst (λ (m : Meaning). IfOk c.statement-answer.result (λ lines. lines ≡ (answer_to c.args.schema.now (g.S.RowSource.versions c.args.source.now) c.args.self.now.ops m).replies))
    c.in_ok-prepared.ensures.meaning c.statement-answer.ensures.replies)

pub returns-clause-so_far : goal.returns-clause-so_far
returns-clause-so_far g c =
    rw c.with_no.ensures (goes_on_by_text c.statement-answer.result c.args.schema.now (g.S.RowSource.versions c.args.source.now) c.args.text.now (text_in c.in_ok-prepared.prepared).meaning c.args.self.now c.statement-answer.new.self
    c.in_ok-prepared.ensures.meaning c.statement-answer.ensures.so_far)
