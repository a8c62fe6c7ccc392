use Rattle.std.proofs.Common.{◌≤◌, map, subst, vec_len, ℕ}
use Rattle.script_read.specs.ScriptText.{script_of}
use Rattle.script_main.proofs.WrittenLemmas.{left_same}
use Rattle.script_main.specs.Stores.{kept_by}
use Rattle.script_main.proofs.answers.answer_script.Goals as goal

pub play_first-answer-requires-clause-runs : goal.play_first-answer-requires-clause-runs
play_first-answer-requires-clause-runs g c = c.scripts_can_run.ensures _ c.args.consumers c.args.bytes.now c.in-Ok.script c.in-Ok.ensures

pub play_first-answer-requires-clause-names : goal.play_first-answer-requires-clause-names
play_first-answer-requires-clause-names g c = c.scripts_have_names.ensures _ c.args.consumers c.args.bytes.now c.in-Ok.script c.in-Ok.ensures

pub play_first-answer-requires-clause-some : goal.play_first-answer-requires-clause-some
play_first-answer-requires-clause-some g c =
    subst (λ (n : ℕ). 1 ≤ n) c.len-count.ensures (c.scripts_have_stores.ensures _ c.args.consumers c.args.bytes.now c.in-Ok.script c.in-Ok.ensures)

pub returns-in-Err-NoMemory-clause-left : goal.returns-in-Err-NoMemory-clause-left
returns-in-Err-NoMemory-clause-left g c =
    left_same (script_of (vec_len c.args.stores.now) c.args.consumers c.args.bytes.now) (map (kept_by g.D.LogStore.synced g.D.LogStore.pending g.D.LogStore.faults g.D.LogStore.writes) c.args.stores.now.items)
