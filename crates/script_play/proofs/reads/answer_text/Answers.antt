use Rattle.std.proofs.Common.{List, ap, arith, length, refl}
use Rattle.phys_log.specs.declared.entries.Entry.{Entry}
use Rattle.script_play.proofs.ReadLemmas.{stands_at_end}
use Rattle.undo_snapshot.specs.Positions.{none_served}
use Rattle.script_play.proofs.reads.answer_text.Goals as goal

pub returns-then-begin-entries-clause-answered : goal.returns-then-begin-entries-clause-answered
returns-then-begin-entries-clause-answered c = λ w same stands. c.answer_now.ensures.answered w same
    (stands_at_end c.args.schema.now c.args.log.now c.args.log.now c.args.session.now.begin (w.seen.at c.args.session.now.begin)
    (let a = c.if-begin-entries.true in let b = c.begin-begin.ensures in let e = ap (λ (es : List Entry). length es) c.entries.ensures in omega (arith, a, b, e)) refl stands)

pub returns-then-begin-entries-clause-served : goal.returns-then-begin-entries-clause-served
returns-then-begin-entries-clause-served c = none_served
