use Rattle.std.proofs.Common.{List, ap, subst, sym}
use Rattle.cdb_values.specs.Rows.{Rows}
use Rattle.phys_log.specs.Logs.{pages_of}
use Rattle.phys_log.specs.declared.entries.Entry.{Entry}
use Rattle.table_store.specs.Stored.{Stands}
use Rattle.script_play.proofs.reads.answer_now.Goals as goal

pub returns-in-Ok-clause-answered : goal.returns-in-Ok-clause-answered
returns-in-Ok-clause-answered c = λ w same stands.
    c.in-Ok.ensures.answered w same (sym (ap (λ (r : Rows). r.tables) (c.new-source.ensures.rows (w.seen.at c.args.session.now.begin)
    (subst (λ (es : List Entry). Stands (pages_of es) c.args.schema.now (w.seen.at c.args.session.now.begin)) (sym (ap (λ s. s.entries) c.in_ok-pages.ensures)) stands))))
