use Rattle.std.proofs.Common.{ℕ, ◌≡◌, ◌∙◌, List, IfOk, ap, subst, sym, take}
use Rattle.page_store.specs.Image.{Image}
use Rattle.phys_log.specs.Logs.{pages_of}
use Rattle.phys_log.specs.declared.entries.Entry.{Entry}
use Rattle.session_turns.specs.Answers.{IsTextAnswered}
use Rattle.sql_run.specs.Views.{text_in}
use Rattle.table_store.specs.Stored.{Stands}
use Rattle.undo_snapshot.proofs.PositionLemmas.{served_once}
use Rattle.undo_snapshot.proofs.PutLemmas.{place_there}
use Rattle.undo_snapshot.specs.Kept.{Further}
use Rattle.undo_snapshot.specs.Positions.{Served, none_served}
use Rattle.script_play.proofs.reads.answer_earlier.Goals as goal

pub returns-in-Ok-clause-answered : goal.returns-in-Ok-clause-answered
returns-in-Ok-clause-answered c = λ w same stands.
    subst (λ r. IfOk r (λ lines. IsTextAnswered w c.args.session.now (text_in c.args.prepared.now).meaning lines c.answer_undone-answer.new.session)) c.in-Ok.is
    (c.answer_undone-answer.ensures.answered w same
    (subst (λ (es : List Entry). Stands (pages_of es) c.args.schema.now (w.seen.at c.args.session.now.begin)) (sym (c.new-granter.ensures ∙ ap (λ n. take n c.args.log.now) c.begin-begin.ensures)) stands))

pub put-requires : goal.put-requires
put-requires c = place_there c.args.undone.now c.take.new.self c.begin-begin.result c.in_ok-kept.ensures.place

pub answer_undone-answer-requires-clause-stands : goal.answer_undone-answer-requires-clause-stands
answer_undone-answer-requires-clause-stands c = (
  c.requires.stands.0,
  subst (λ (es : List Entry). Stands (pages_of es) c.args.schema.now c.requires.stands.0) (sym (c.new-granter.ensures ∙ ap (λ n. take n c.args.log.now) c.begin-begin.ensures)) c.requires.stands.1,
)

-- the answer began with the pages that were taken out, and what it left was put into the same place
pub returns-in-Ok-clause-served : goal.returns-in-Ok-clause-served
returns-in-Ok-clause-served c =
    served_once c.args.log.now c.args.undone.now c.take.new.self c.put.new.self c.begin-begin.result c.answer_undone-answer.result.kept
    c.in_ok-kept.ensures.place c.put.ensures.put
    (subst (λ (k : List (ℕ × Image)). Further (pages_of (take c.begin-begin.result c.args.log.now)) k c.answer_undone-answer.result.kept) c.in_ok-kept.ensures.taken
    (subst (λ (es : List Entry). Further (pages_of es) c.in_ok-kept.kept c.answer_undone-answer.result.kept) c.new-granter.ensures c.answer_undone-answer.ensures.further))

pub returns-in-Err-clause-served : goal.returns-in-Err-clause-served
returns-in-Err-clause-served c =
    served_once c.args.log.now c.args.undone.now c.take.new.self c.put.new.self c.begin-begin.result c.answer_undone-answer.result.kept
    c.in_ok-kept.ensures.place c.put.ensures.put
    (subst (λ (k : List (ℕ × Image)). Further (pages_of (take c.begin-begin.result c.args.log.now)) k c.answer_undone-answer.result.kept) c.in_ok-kept.ensures.taken
    (subst (λ (es : List Entry). Further (pages_of es) c.in_ok-kept.kept c.answer_undone-answer.result.kept) c.new-granter.ensures c.answer_undone-answer.ensures.further))

pub returns-in_err-kept-clause-served : goal.returns-in_err-kept-clause-served
returns-in_err-kept-clause-served c =
    subst (λ (k : List (ℕ × List (ℕ × Image))). Served c.args.log.now c.args.undone.now k) (sym c.in_err-kept.ensures.unchanged) none_served
