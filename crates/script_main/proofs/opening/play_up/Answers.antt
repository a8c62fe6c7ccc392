use Rattle.std.proofs.Common.{◌≡◌, ◌≢◌, ◌∙◌, rules, subst, sym, ℕ, []}
use Rattle.std.proofs.lemmas.Bool.{eq-eqb, false≢true}
use Rattle.std.specs.Prelude.{◌⊎◌}
use Rattle.std.proofs.lemmas.Result.{IfOk-weaker}
use Rattle.cdb_values.specs.Rows.{Rows}
use Rattle.node_log.specs.Logged.{Logged}
use Rattle.script_form.specs.declared.scripts.Script.{Script}
use Rattle.store_log.specs.Keeps.{Stored}
use Rattle.script_main.proofs.BegunLemmas.{keeps_tables, nil_from_test}
use Rattle.script_main.proofs.RanLemmas.{whole_begins, whole_runs}
use Rattle.script_main.specs.Steps.{log_before, IsBegunAt, IsLeftBehind, IsLeftFrom, IsOpened, IsPlayedText, IsRunText}
use Rattle.script_main.specs.Stores.{kept_by, start_at}
use Rattle.script_main.proofs.opening.play_up.Goals.{then-begun-eq0, else-begun-eq0}
use Rattle.script_main.proofs.opening.play_up.Goals as goal

pub play_begun-requires-clause-begun : goal.play_begun-requires-clause-begun
play_begun-requires-clause-begun g c =
    let script = c.args.script.now in
    let up = c.args.up in
    let b = c.begin-begun.result in
    let same = c.begin-begun.ensures in
    let own : (b.base ≡ 0) ⊎ (script.tables ≢ []) = search rules in
    let opened = c.requires.opened in
    whole_begins script script opened.0 b.base b.log (keeps_tables script b.base b.log own)
    (subst (λ (l : Logged). IsOpened script opened.0 b.base l) (sym same.log) (subst (λ (n : ℕ). IsOpened script opened.0 n up.log) (sym same.base) opened.1))

pub play_logged-requires-clause-none : goal.play_logged-requires-clause-none
play_logged-requires-clause-none g c = elim c.if-begun-eq0.branch [
  | then-begun-eq0 w ↦ absurd (false≢true (sym c.if-not-is_empty.false ∙ w.value-is ∙ eq-eqb c.begin-begun.result.base 0 w.if-begun-eq0.true))
  | else-begun-eq0 w ↦ sym w.as_slice.ensures ∙ nil_from_test w.as_slice.result.now c.if-begun-eq0.value w.is_empty.result w.value-is w.is_empty.ensures c.if-not-is_empty.false
]

pub returns-then-not-is_empty-clause-text : goal.returns-then-not-is_empty-clause-text
returns-then-not-is_empty-clause-text g c =
    let script = c.args.script.now in
    let up = c.args.up in
    let b = c.begin-begun.result in
    let same = c.begin-begun.ensures in
    let own : (b.base ≡ 0) ⊎ (script.tables ≢ []) = search rules in
    let before = log_before b.base b.log in
    let new = kept_by g.D.LogStore.synced g.D.LogStore.pending g.D.LogStore.faults g.D.LogStore.writes c.play_begun.result.store in
    IfOk-weaker c.play_begun.result.answer
    (λ a. (rows : Rows) → IsBegunAt script b.base before b.log rows → IsPlayedText script (start_at before rows) b.log new a.status a.text)
    (λ a. (old : Stored) → IsOpened script old up.base up.log → IsRunText script old new a.status a.text)
    (λ a told old o. whole_runs c.pages_that_stand_keep_their_keys.ensures.good script script old new b.base b.log a.status a.text (keeps_tables script b.base b.log own)
    c.requires.runs c.requires.names (subst (λ (l : Logged). IsOpened script old b.base l) (sym same.log) (subst (λ (n : ℕ). IsOpened script old n up.log) (sym same.base) o)) told)
    c.play_begun.ensures.text

pub returns-else-not-is_empty-clause-text : goal.returns-else-not-is_empty-clause-text
returns-else-not-is_empty-clause-text g c =
    let script = c.args.script.now in
    let up = c.args.up in
    let b = c.begin-begun.result in
    let same = c.begin-begun.ensures in
    let new = kept_by g.D.LogStore.synced g.D.LogStore.pending g.D.LogStore.faults g.D.LogStore.writes c.play_logged.result.store in
    IfOk-weaker c.play_logged.result.answer
    (λ a. (old : Stored) → IsOpened script old b.base b.log → IsRunText script old new a.status a.text)
    (λ a. (old : Stored) → IsOpened script old up.base up.log → IsRunText script old new a.status a.text)
    (λ a told old o. told old (subst (λ (l : Logged). IsOpened script old b.base l) (sym same.log) (subst (λ (n : ℕ). IsOpened script old n up.log) (sym same.base) o)))
    c.play_logged.ensures.text

pub returns-then-not-is_empty-clause-left : goal.returns-then-not-is_empty-clause-left
returns-then-not-is_empty-clause-left g c =
    let script = c.args.script.now in
    let up = c.args.up in
    let b = c.begin-begun.result in
    let same = c.begin-begun.ensures in
    let own : (b.base ≡ 0) ⊎ (script.tables ≢ []) = search rules in
    let new = kept_by g.D.LogStore.synced g.D.LogStore.pending g.D.LogStore.faults g.D.LogStore.writes c.play_begun.result.store in
    subst (λ (l : Logged). IsLeftBehind script (log_before up.base l) l new) same.log
    (subst (λ (n : ℕ). IsLeftBehind script (log_before n b.log) b.log new) same.base
    (subst (λ (s : Script). IsLeftFrom s (log_before b.base b.log) b.log new) (keeps_tables script b.base b.log own) c.play_begun.ensures.left))

pub returns-else-not-is_empty-clause-left : goal.returns-else-not-is_empty-clause-left
returns-else-not-is_empty-clause-left g c =
    let up = c.args.up in
    let same = c.begin-begun.ensures in
    let new = kept_by g.D.LogStore.synced g.D.LogStore.pending g.D.LogStore.faults g.D.LogStore.writes c.play_logged.result.store in
    subst (λ (l : Logged). IsLeftBehind c.args.script.now (log_before up.base l) l new) same.log
    (subst (λ (n : ℕ). IsLeftBehind c.args.script.now (log_before n c.begin-begun.result.log) c.begin-begun.result.log new) same.base c.play_logged.ensures.left)
