use Rattle.std.proofs.Common.{sym}
use Rattle.osql_session.proofs.CourseLemmas.{goes_on}
use Rattle.osql_session.proofs.sessions.OsqlSession.statement.Goals as goal
use Rattle.sql_run.specs.Views.{text_in}

pub returns-clause-replies : goal.returns-clause-replies
returns-clause-replies g c = rw (sym c.mark_before.ensures) c.answered.ensures.replies

pub returns-clause-ops : goal.returns-clause-ops
returns-clause-ops g c = rw (sym c.mark_before.ensures) c.answered.ensures.ops

pub returns-clause-genids : goal.returns-clause-genids
returns-clause-genids g c = rw (sym c.mark_before.ensures) c.answered.ensures.genids

pub returns-clause-ranges : goal.returns-clause-ranges
returns-clause-ranges g c = rw (sym c.mark_before.ensures) c.answered.ensures.ranges

pub returns-clause-so_far : goal.returns-clause-so_far
returns-clause-so_far g c =
    rw (sym c.mark_before.ensures)
    (goes_on c.answered.result c.args.schema.now (g.S.RowSource.versions c.args.source.now) (text_in c.args.prepared.now).meaning c.mark_before.new.self c.answered.new.self
    c.answered.ensures.replies c.answered.ensures.ops c.answered.ensures.genids c.answered.ensures.ranges)

pub returns-clause-unchanged : goal.returns-clause-unchanged
returns-clause-unchanged g c = rw (sym c.mark_before.ensures) c.answered.ensures.unchanged
