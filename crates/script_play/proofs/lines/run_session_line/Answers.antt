use Rattle.std.proofs.Common.{◌≡◌, ◌∙◌, length, false, true, arith, subst, sym, Bool, IfOk, OnOk}
use Rattle.std.specs.Str.{is_utf8}
use Rattle.script_play.specs.Down.{history_by, IsHeldBy}
use Rattle.script_play.specs.Ready.{IsLogged}
use Rattle.script_play.specs.RunViews.{run_in, AreOver, CanGoOn, IsReadyFor, IsTakenFrom}
use Rattle.session_turns.specs.Views.{IsOwn}
use Rattle.session_turns.specs.declared.states.SessionState.{SessionState}
use Rattle.script_play.proofs.TakeLemmas.{cut_taken, of_ok}
use Rattle.sql_answer.specs.Language.{meaning, sql_binder}
use Rattle.sql_answer.specs.Reading.{kind_of_text}
use Rattle.sql_run.specs.Texts.{plan_by}
use Rattle.sql_run.specs.Views.{kind_in, text_in}
use Rattle.script_play.proofs.lines.run_session_line.Goals as goal

-- the node is up, so its log is that of the history
pub run_whole-done-requires : goal.run_whole-done-requires
run_whole-done-requires g c = λ κs lives. (
  lives,
  (
    up,
    (
      subst (λ (b : Bool). IsHeldBy b c.args.generation c.args.run.now.log) up c.requires.1.1.1.1.1,
      (
        subst (λ (b : Bool). IsReadyFor g.start c.args.schema.now (history_by b c.args.run.now.log.entries)) up c.requires.1.0,
        (
          subst (λ (s : SessionState). CanGoOn g.start c.args.schema.now c.args.run.now.log.entries s.doing) (sym c.in_ok-state.ensures.0)
              (subst (λ (b : Bool). CanGoOn g.start c.args.schema.now (history_by b c.args.run.now.log.entries) c.args.state.doing) up c.requires.1.1.0),
          (
            subst (λ (s : SessionState). AreOver c.args.generation c.args.name.now s c.args.run.now.log.entries) (sym c.in_ok-state.ensures.0)
                (subst (λ (b : Bool). AreOver c.args.generation c.args.name.now c.args.state (history_by b c.args.run.now.log.entries)) up c.requires.1.1.1.0),
            (
              subst (λ (s : SessionState). IsOwn c.args.generation c.args.name.now s) (sym c.in_ok-state.ensures.0) c.requires.1.1.1.1.0,
              (
                subst (λ r. IfOk r (λ p. (text_in p).plan ≡ plan_by c.args.schema.now (text_in p).meaning)) c.in_ok-state.ensures.1 c.read_text.ensures.plan,
                (
                  c.args.text.now,
                  subst (λ r. OnOk r (is_utf8 c.args.text.now ≡ true)) c.in_ok-state.ensures.1 c.read_text.ensures.utf8,
                  subst (λ r. IfOk r (λ p. (text_in p).meaning ≡ meaning sql_binder c.args.schema.now c.args.text.now)) c.in_ok-state.ensures.1 c.read_text.ensures.meaning,
                ),
              ),
            ),
          ),
        ),
      ),
    ),
  ),
)
  where
    up : c.args.run.now.log.failed ≡ false
    up = sym c.has_failed.ensures ∙ c.if-has_failed.false

pub returns-in-Err-clause-taken : goal.returns-in-Err-clause-taken
returns-in-Err-clause-taken g c =
    subst (λ (s : SessionState). IfOk c.cut_short.result (λ after. IsTakenFrom g.start c.args.generation c.args.schema.now c.args.name.now s c.args.text.now after (run_in c.args.run.now) (run_in c.cut_short.new.run))) c.in_ok-state.ensures.0 (
    cut_taken g.start c.args.generation c.args.schema.now c.args.run.now.log c.cut_short.new.run.log c.args.name.now c.in_ok-state.state c.args.text.now (kind_in c.kind-kind.result) c.cut_state-cut.result c.cut_short.result
    c.args.run.now.lines.items c.cut_short.new.run.lines.items c.args.run.now.entries.items c.cut_short.new.run.entries.items up
    (subst (λ (b : Bool). IsLogged g.start c.args.schema.now (length (history_by b c.args.run.now.log.entries)) (history_by b c.args.run.now.log.entries)) up c.requires.1.0.logged)
    c.cut_state-cut.ensures.shut
    (c.kind-kind.ensures ∙ subst (λ r. IfOk r (λ p. (text_in p).kind ≡ kind_of_text c.args.text.now)) c.in_ok-state.ensures.1 c.read_text.ensures.kind)
    c.cut_state-cut.ensures.cut c.cut_short.ensures.state
    (of_ok c.cut_short.result (λ after told. told c.args.run.now.lines.items (let a = c.len-had.ensures in let b = c.args.run.now.lines.ok in omega (arith, a, b)) c.in-Err.ensures.err_lines) c.cut_short.ensures.lines)
    (c.cut_short.ensures.same.0 ∙ c.in-Err.ensures.err_same.0) (c.cut_short.ensures.same.1 ∙ c.in-Err.ensures.err_same.1))
  where
    up : c.args.run.now.log.failed ≡ false
    up = sym c.has_failed.ensures ∙ c.if-has_failed.false
