use Rattle.std.proofs.Common.{◌≡◌, ◌∙◌, ap, map, List}
use Rattle.std.proofs.lemmas.Result.{IfOk-weaker}
use Rattle.script_form.specs.CanRun.{script_tables}
use Rattle.script_form.specs.declared.scripts.TableLine.{TableLine}
use Rattle.script_main.proofs.BegunLemmas.{opened_as}
use Rattle.script_main.proofs.RanLemmas.{left_as, left_cut, length_as, not_up_text, place_in, run_cut, run_text, why_of}
use Rattle.script_main.specs.Run.{IsTextOver}
use Rattle.script_main.specs.Steps.{IsNotUpText, IsOpened, IsRunText}
use Rattle.script_main.specs.Stores.{kept_by}
use Rattle.store_log.specs.Keeps.{Stored}
use Rattle.script_main.proofs.opening.play_over.Goals as goal

pub play_up-requires-clause-opened : goal.play_up-requires-clause-opened
play_up-requires-clause-opened g c =
    let same : c.in-Ok.schema ≡ script_tables c.args.script.now =
    c.in-Ok.ensures ∙ ap (λ (ts : List TableLine). map (λ (t : TableLine). t.table) ts) c.as_slice.ensures in
    let old = kept_by g.D.LogStore.synced g.D.LogStore.pending g.D.LogStore.faults g.D.LogStore.writes c.args.store in
    let told = c.in-Ok-open_node.ensures in
    (old, opened_as c.args.script.now old c.in-Ok-open_node.up.base c.in-Ok-cluster_id.cluster c.in-Ok.schema c.in-Ok-open_node.up.log c.in-Ok-cluster_id.ensures same told.up told.node told.cluster told.running told.calm)

pub not_up-requires-clause-place : goal.not_up-requires-clause-place
not_up-requires-clause-place g c =
    let same : c.in-Ok.schema ≡ script_tables c.args.script.now =
    c.in-Ok.ensures ∙ ap (λ (ts : List TableLine). map (λ (t : TableLine). t.table) ts) c.as_slice.ensures in
    let w = c.in-Err.down.why in
    let old = g.D.LogStore.synced c.args.store in
    let before = g.D.LogStore.faults c.args.store in
    let now = g.D.LogStore.faults c.in-Err.down.store in
    place_in c.args.script.now w old before now
    (why_of c.args.script.now w c.in-Ok-cluster_id.cluster c.in-Ok.schema old before now c.in-Ok-cluster_id.ensures same c.in-Err.ensures.why)

pub returns-in-Ok-open_node-clause-text : goal.returns-in-Ok-open_node-clause-text
returns-in-Ok-open_node-clause-text g c =
    let same : c.in-Ok.schema ≡ script_tables c.args.script.now =
    c.in-Ok.ensures ∙ ap (λ (ts : List TableLine). map (λ (t : TableLine). t.table) ts) c.as_slice.ensures in
    let script = c.args.script.now in
    let up = c.in-Ok-open_node.up in
    let old = kept_by g.D.LogStore.synced g.D.LogStore.pending g.D.LogStore.faults g.D.LogStore.writes c.args.store in
    let new = kept_by g.D.LogStore.synced g.D.LogStore.pending g.D.LogStore.faults g.D.LogStore.writes c.play_up.result.store in
    let told = c.in-Ok-open_node.ensures in
    let opened : IsOpened script old up.base up.log =
    opened_as script old up.base c.in-Ok-cluster_id.cluster c.in-Ok.schema up.log c.in-Ok-cluster_id.ensures same told.up told.node told.cluster told.running told.calm in
    IfOk-weaker c.play_up.result.answer
    (λ a. (old : Stored) → IsOpened script old up.base up.log → IsRunText script old new a.status a.text)
    (λ a. IsTextOver script old new a.status a.text)
    (λ a is. run_text script old new a.status a.text (is old opened))
    c.play_up.ensures.text

pub returns-clause-text : goal.returns-clause-text
returns-clause-text g c =
    let same : c.in-Ok.schema ≡ script_tables c.args.script.now =
    c.in-Ok.ensures ∙ ap (λ (ts : List TableLine). map (λ (t : TableLine). t.table) ts) c.as_slice.ensures in
    let script = c.args.script.now in
    let down = c.in-Err.down in
    let old = kept_by g.D.LogStore.synced g.D.LogStore.pending g.D.LogStore.faults g.D.LogStore.writes c.args.store in
    let new = kept_by g.D.LogStore.synced g.D.LogStore.pending g.D.LogStore.faults g.D.LogStore.writes down.store in
    let told = c.in-Err.ensures in
    IfOk-weaker c.not_up.result
    (λ a. IsNotUpText script down.why a.status a.text)
    (λ a. IsTextOver script old new a.status a.text)
    (λ a is. not_up_text c.pages_that_stand_keep_their_keys.ensures.good script down.why old new a.status a.text
    (why_of script down.why c.in-Ok-cluster_id.cluster c.in-Ok.schema old.synced old.faults new.faults c.in-Ok-cluster_id.ensures same told.why)
    (length_as script down.why c.in-Ok-cluster_id.cluster c.in-Ok.schema old.synced old.writes new.writes c.in-Ok-cluster_id.ensures same told.length)
    (left_as script down.why c.in-Ok-cluster_id.cluster c.in-Ok.schema old.synced new.synced c.in-Ok-cluster_id.ensures same told.left) is)
    c.not_up.ensures

pub returns-in-Ok-open_node-clause-left : goal.returns-in-Ok-open_node-clause-left
returns-in-Ok-open_node-clause-left g c =
    let same : c.in-Ok.schema ≡ script_tables c.args.script.now =
    c.in-Ok.ensures ∙ ap (λ (ts : List TableLine). map (λ (t : TableLine). t.table) ts) c.as_slice.ensures in
    let script = c.args.script.now in
    let up = c.in-Ok-open_node.up in
    let old = kept_by g.D.LogStore.synced g.D.LogStore.pending g.D.LogStore.faults g.D.LogStore.writes c.args.store in
    let told = c.in-Ok-open_node.ensures in
    run_cut c.pages_that_stand_keep_their_keys.ensures.good script old (kept_by g.D.LogStore.synced g.D.LogStore.pending g.D.LogStore.faults g.D.LogStore.writes c.play_up.result.store) up.base up.log
    (opened_as script old up.base c.in-Ok-cluster_id.cluster c.in-Ok.schema up.log c.in-Ok-cluster_id.ensures same told.up told.node told.cluster told.running told.calm) c.play_up.ensures.left

pub returns-clause-left : goal.returns-clause-left
returns-clause-left g c =
    let same : c.in-Ok.schema ≡ script_tables c.args.script.now =
    c.in-Ok.ensures ∙ ap (λ (ts : List TableLine). map (λ (t : TableLine). t.table) ts) c.as_slice.ensures in
    let script = c.args.script.now in
    let down = c.in-Err.down in
    let old = kept_by g.D.LogStore.synced g.D.LogStore.pending g.D.LogStore.faults g.D.LogStore.writes c.args.store in
    let new = kept_by g.D.LogStore.synced g.D.LogStore.pending g.D.LogStore.faults g.D.LogStore.writes down.store in
    left_cut c.pages_that_stand_keep_their_keys.ensures.good script down.why old new (left_as script down.why c.in-Ok-cluster_id.cluster c.in-Ok.schema old.synced new.synced c.in-Ok-cluster_id.ensures same c.in-Err.ensures.left)
