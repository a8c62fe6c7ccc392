use Rattle.std.proofs.Common.{◌∙◌, ◌≡◌, ap, map, refl, subst, sym, List}
use Rattle.std.proofs.lemmas.Result.{IfOk-weaker}
use Rattle.cdb_values.specs.Rows.{Rows}
use Rattle.log_rows.specs.History as history
use Rattle.phys_log.specs.declared.entries.Entry.{Entry}
use Rattle.script_form.specs.CanRun.{CanRun}
use Rattle.script_form.specs.declared.scripts.Script.{Script}
use Rattle.store_log.specs.Keeps.{Stored}
use Rattle.script_main.proofs.BegunLemmas.{takes_as, takes_tables}
use Rattle.script_main.proofs.RanLemmas.{opened_left, whole_begins, whole_runs}
use Rattle.script_main.specs.Steps.{log_before, IsBegunAt, IsLeftBehind, IsLeftFrom, IsOpened, IsPlayedText, IsRunText}
use Rattle.script_main.specs.Stores.{kept_by, start_at, unsaid}
use Rattle.script_main.proofs.opening.play_logged.Goals as goal

pub play_begun-ended-requires-clause-runs : goal.play_begun-ended-requires-clause-runs
play_begun-ended-requires-clause-runs g c =
    let b = c.args.begun in
    let script = c.args.script.now in
    let o = c.requires.opened in
    let is : c.in-Ok.whole ≡ record script { tables = map unsaid (history.tables_of b.log.entries) } =
    c.in-Ok.ensures ∙ ap (λ (es : List Entry). record script { tables = map unsaid (history.tables_of es) }) c.log.ensures.entries in
    takes_tables script c.in-Ok.whole b.log c.requires.runs (c.log.ensures.spelled o.1.running) is

pub play_begun-ended-requires-clause-begun : goal.play_begun-ended-requires-clause-begun
play_begun-ended-requires-clause-begun g c =
    let b = c.args.begun in
    let script = c.args.script.now in
    let o = c.requires.opened in
    let is : c.in-Ok.whole ≡ record script { tables = map unsaid (history.tables_of b.log.entries) } =
    c.in-Ok.ensures ∙ ap (λ (es : List Entry). record script { tables = map unsaid (history.tables_of es) }) c.log.ensures.entries in
    whole_begins script c.in-Ok.whole o.0 b.base b.log (takes_as script c.in-Ok.whole o.0 b.base b.log o.1 c.requires.some c.requires.none is) o.1

pub returns-in-Ok-clause-text : goal.returns-in-Ok-clause-text
returns-in-Ok-clause-text g c =
    let b = c.args.begun in
    let script = c.args.script.now in
    let before = log_before b.base b.log in
    let o = c.requires.opened in
    let new = kept_by g.D.LogStore.synced g.D.LogStore.pending g.D.LogStore.faults g.D.LogStore.writes c.play_begun-ended.result.store in
    let is : c.in-Ok.whole ≡ record script { tables = map unsaid (history.tables_of b.log.entries) } =
    c.in-Ok.ensures ∙ ap (λ (es : List Entry). record script { tables = map unsaid (history.tables_of es) }) c.log.ensures.entries in
    IfOk-weaker c.play_begun-ended.result.answer
    (λ a. (rows : Rows) → IsBegunAt c.in-Ok.whole b.base before b.log rows → IsPlayedText c.in-Ok.whole (start_at before rows) b.log new a.status a.text)
    (λ a. (old : Stored) → IsOpened script old b.base b.log → IsRunText script old new a.status a.text)
    (λ a told old opened. whole_runs c.pages_that_stand_keep_their_keys.ensures.good script c.in-Ok.whole old new b.base b.log a.status a.text
    (takes_as script c.in-Ok.whole o.0 b.base b.log o.1 c.requires.some c.requires.none is)
    (takes_tables script c.in-Ok.whole b.log c.requires.runs (c.log.ensures.spelled o.1.running) is) c.requires.names opened told)
    c.play_begun-ended.ensures.text

pub returns-in-Ok-clause-left : goal.returns-in-Ok-clause-left
returns-in-Ok-clause-left g c =
    let b = c.args.begun in
    let script = c.args.script.now in
    let before = log_before b.base b.log in
    let o = c.requires.opened in
    let is : c.in-Ok.whole ≡ record script { tables = map unsaid (history.tables_of b.log.entries) } =
    c.in-Ok.ensures ∙ ap (λ (es : List Entry). record script { tables = map unsaid (history.tables_of es) }) c.log.ensures.entries in
    subst (λ (s : Script). IsLeftFrom s before b.log (kept_by g.D.LogStore.synced g.D.LogStore.pending g.D.LogStore.faults g.D.LogStore.writes c.play_begun-ended.result.store))
    (takes_as script c.in-Ok.whole o.0 b.base b.log o.1 c.requires.some c.requires.none is) c.play_begun-ended.ensures.left

pub returns-in-Err-clause-left : goal.returns-in-Err-clause-left
returns-in-Err-clause-left g c =
    let b = c.args.begun in
    let script = c.args.script.now in
    let o = c.requires.opened in
    let back = c.give_back.ensures in
    let whole : Script = record script { tables = map unsaid (history.tables_of b.log.entries) } in
    subst (λ store. IsLeftBehind script (log_before b.base b.log) b.log (kept_by g.D.LogStore.synced g.D.LogStore.pending g.D.LogStore.faults g.D.LogStore.writes store)) (sym c.no_memory.ensures.store)
    (opened_left script o.0 b.base b.log (kept_by g.D.LogStore.synced g.D.LogStore.pending g.D.LogStore.faults g.D.LogStore.writes c.give_back.result)
    (subst CanRun (takes_as script whole o.0 b.base b.log o.1 c.requires.some c.requires.none refl) (takes_tables script whole b.log c.requires.runs (c.log.ensures.spelled o.1.running) refl))
    o.1 (record { joined = back.joined; calm = back.calm; stands = back.stands }))
