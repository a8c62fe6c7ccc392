use Rattle.std.proofs.Common.{inl, inr, map, refl, vec_len}
use Rattle.script_main.proofs.WrittenLemmas.{source_answered, source_stops, stops_unread}
use Rattle.cdb_outside.specs.declared.statuses.Status.TheVariants as status
use Rattle.script_main.specs.Stores.{kept_by}
use Rattle.script_main.proofs.running.answer_source.Goals as goal

pub returns-in-Ok-answer_script-clause-answers : goal.returns-in-Ok-answer_script-clause-answers
returns-in-Ok-answer_script-clause-answers g c =
    let count = vec_len c.args.stores.now in
    let old = map (kept_by g.D.LogStore.synced g.D.LogStore.pending g.D.LogStore.faults g.D.LogStore.writes) c.args.stores.now.items in
    let new = map (kept_by g.D.LogStore.synced g.D.LogStore.pending g.D.LogStore.faults g.D.LogStore.writes) c.answer_script.new.stores.items in
    let had = g.S.Source.left c.args.source.now in
    let left = g.S.Source.left c.read_up_to.new.source in
    let read = c.as_slice.result.now in
    let a = c.in-Ok-answer_script.answer in
    source_answered count c.args.consumers old new had left read a.status a.text
    (λ bytes rest long. c.later_bytes_do_not_matter.ensures count c.args.consumers bytes rest long)
    (rw c.as_slice.ensures.value c.in-Ok.ensures.bytes) (rw c.as_slice.ensures.value c.in-Ok.ensures.whole) c.in-Ok-answer_script.ensures.text

pub returns-in-Ok-clause-stops : goal.returns-in-Ok-clause-stops
returns-in-Ok-clause-stops g c =
    let count = vec_len c.args.stores.now in
    let old = map (kept_by g.D.LogStore.synced g.D.LogStore.pending g.D.LogStore.faults g.D.LogStore.writes) c.args.stores.now.items in
    let new = map (kept_by g.D.LogStore.synced g.D.LogStore.pending g.D.LogStore.faults g.D.LogStore.writes) c.answer_script.new.stores.items in
    let had = g.S.Source.left c.args.source.now in
    let left = g.S.Source.left c.read_up_to.new.source in
    let read = c.as_slice.result.now in
    source_stops count c.args.consumers old new had left read status.NoMemory
    (λ bytes rest long. c.later_bytes_do_not_matter.ensures count c.args.consumers bytes rest long)
    (rw c.as_slice.ensures.value c.in-Ok.ensures.bytes) (rw c.as_slice.ensures.value c.in-Ok.ensures.whole) refl c.in-Err.ensures.left

pub returns-in-Err-Fault-clause-stops : goal.returns-in-Err-Fault-clause-stops
returns-in-Err-Fault-clause-stops g c =
    stops_unread (vec_len c.args.stores.now) c.args.consumers (map (kept_by g.D.LogStore.synced g.D.LogStore.pending g.D.LogStore.faults g.D.LogStore.writes) c.args.stores.now.items) (g.S.Source.left c.args.source.now) status.ReadFault (inl refl)

pub returns-clause-stops : goal.returns-clause-stops
returns-clause-stops g c =
    stops_unread (vec_len c.args.stores.now) c.args.consumers (map (kept_by g.D.LogStore.synced g.D.LogStore.pending g.D.LogStore.faults g.D.LogStore.writes) c.args.stores.now.items) (g.S.Source.left c.args.source.now) status.NoMemory (inr refl)
