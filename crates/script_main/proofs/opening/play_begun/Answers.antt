use Rattle.std.proofs.Common.{refl, sym, subst}
use Rattle.std.proofs.lemmas.Result.{IfOk-weaker}
use Rattle.cdb_values.specs.Rows.{Rows}
use Rattle.script_main.proofs.KnownLemmas.{known_are, known_rows, only_state}
use Rattle.script_main.specs.Steps.{log_before, IsBegunAt, IsPlayedText}
use Rattle.script_main.specs.Stores.{kept_by, start_at}
use Rattle.script_main.proofs.opening.play_begun.Goals as goal

pub play_from-requires : goal.play_from-requires
play_from-requires g c κs within =
    let b = c.args.begun in
    let before = log_before b.base b.log in
    let has = c.requires.begun in (
      within,
      (
        c.requires.runs,
        (
          refl,
          subst (λ (r : Rows). IsBegunAt c.args.script.now b.base before b.log r)
              (known_are b.base b.log b.known (only_state before c.pages_stand_for_one_state.ensures.one) has.0 has.1.has_rows) has.1,
        ),
      ),
    )

pub returns-clause-text : goal.returns-clause-text
returns-clause-text g c =
    let b = c.args.begun in
    let before = log_before b.base b.log in
    let new = kept_by g.D.LogStore.synced g.D.LogStore.pending g.D.LogStore.faults g.D.LogStore.writes c.play_from.result.store in
    IfOk-weaker c.play_from.result.answer
    (λ a. IsPlayedText c.args.script.now (start_at before (known_rows b.base b.log b.known)) b.log new a.status a.text)
    (λ a. (rows : Rows) → IsBegunAt c.args.script.now b.base before b.log rows → IsPlayedText c.args.script.now (start_at before rows) b.log new a.status a.text)
    (λ a told rows is. subst (λ (r : Rows). IsPlayedText c.args.script.now (start_at before r) b.log new a.status a.text)
    (sym (known_are b.base b.log b.known (only_state before c.pages_stand_for_one_state.ensures.one) rows is.has_rows)) told)
    c.play_from.ensures.text
