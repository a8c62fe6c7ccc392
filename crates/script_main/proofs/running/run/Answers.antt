use Rattle.std.proofs.Common.{sym, ap, map, subst, true, vec_len, Err, List, ℕ}
use Rattle.script_main.specs.Run.{AnswersSource, Finishes, StopsAt}
use Rattle.script_main.specs.Stores.{kept_by}
use Rattle.script_main.specs.Words.{is_play}
use Rattle.script_main.proofs.TellsLemmas.{completes, completes_off, tells_refusal, tells_store_refused, tells_unsound, tells_usage}
use Rattle.script_main.proofs.SoundLemmas.{stands_again}
use Rattle.script_main.proofs.WrittenLemmas.{answer_says, no_read_fault, stop_says, stop_written, usage_says, write_rose}
use Rattle.script_main.proofs.running.run.Goals as goal

pub returns-then-not-is_command-clause-says : goal.returns-then-not-is_command-clause-says
returns-then-not-is_command-clause-says g c =
    let play = is_play c.args.words.now in
    let count = vec_len c.args.outside.now.stores in
    let consumers = vec_len c.args.outside.now.consumers in
    let stores = map (kept_by g.D.LogStore.synced g.D.LogStore.pending g.D.LogStore.faults g.D.LogStore.writes) c.args.outside.now.stores.items in
    let left = g.S.Source.left c.args.outside.now.source in
    let taken = g.K.Sink.taken c.args.outside.now.sink in
    usage_says play count consumers stores left taken (g.K.Sink.taken c.finish.new.sink) (g.K.Sink.faults c.args.outside.now.sink) (g.K.Sink.faults c.finish.new.sink)
    c.finish.result (sym c.if-not-is_command.ensures) c.finish.ensures

pub returns-then-not-is_command-clause-usage : goal.returns-then-not-is_command-clause-usage
returns-then-not-is_command-clause-usage g c =
    let play = is_play c.args.words.now in
    let count = vec_len c.args.outside.now.stores in
    let consumers = vec_len c.args.outside.now.consumers in
    let stores = map (kept_by g.D.LogStore.synced g.D.LogStore.pending g.D.LogStore.faults g.D.LogStore.writes) c.args.outside.now.stores.items in
    let left = g.S.Source.left c.args.outside.now.source in
    let taken = g.K.Sink.taken c.args.outside.now.sink in
    tells_usage play count consumers stores stores left taken (g.K.Sink.taken c.finish.new.sink) c.finish.result (returns-then-not-is_command-clause-says g c)

pub returns-then-not-is_command-clause-refusal : goal.returns-then-not-is_command-clause-refusal
returns-then-not-is_command-clause-refusal g c =
    let play = is_play c.args.words.now in
    let count = vec_len c.args.outside.now.stores in
    let consumers = vec_len c.args.outside.now.consumers in
    let stores = map (kept_by g.D.LogStore.synced g.D.LogStore.pending g.D.LogStore.faults g.D.LogStore.writes) c.args.outside.now.stores.items in
    let left = g.S.Source.left c.args.outside.now.source in
    let taken = g.K.Sink.taken c.args.outside.now.sink in
    tells_refusal play count consumers stores stores left taken (g.K.Sink.taken c.finish.new.sink) c.finish.result (returns-then-not-is_command-clause-says g c)

pub returns-then-not-is_command-clause-store_refused : goal.returns-then-not-is_command-clause-store_refused
returns-then-not-is_command-clause-store_refused g c =
    let play = is_play c.args.words.now in
    let count = vec_len c.args.outside.now.stores in
    let consumers = vec_len c.args.outside.now.consumers in
    let stores = map (kept_by g.D.LogStore.synced g.D.LogStore.pending g.D.LogStore.faults g.D.LogStore.writes) c.args.outside.now.stores.items in
    let left = g.S.Source.left c.args.outside.now.source in
    let taken = g.K.Sink.taken c.args.outside.now.sink in
    tells_store_refused play count consumers stores stores left taken (g.K.Sink.taken c.finish.new.sink) c.finish.result (returns-then-not-is_command-clause-says g c)

pub returns-then-not-is_command-clause-unsound : goal.returns-then-not-is_command-clause-unsound
returns-then-not-is_command-clause-unsound g c =
    let play = is_play c.args.words.now in
    let count = vec_len c.args.outside.now.stores in
    let consumers = vec_len c.args.outside.now.consumers in
    let stores = map (kept_by g.D.LogStore.synced g.D.LogStore.pending g.D.LogStore.faults g.D.LogStore.writes) c.args.outside.now.stores.items in
    let left = g.S.Source.left c.args.outside.now.source in
    let taken = g.K.Sink.taken c.args.outside.now.sink in
    tells_unsound play count consumers stores stores left taken (g.K.Sink.taken c.finish.new.sink) c.finish.result (returns-then-not-is_command-clause-says g c)

pub returns-in-Ok-clause-says : goal.returns-in-Ok-clause-says
returns-in-Ok-clause-says g c =
    let play = is_play c.args.words.now in
    let count = vec_len c.args.outside.now.stores in
    let consumers = vec_len c.args.outside.now.consumers in
    let stores = map (kept_by g.D.LogStore.synced g.D.LogStore.pending g.D.LogStore.faults g.D.LogStore.writes) c.args.outside.now.stores.items in
    let left = g.S.Source.left c.args.outside.now.source in
    let taken = g.K.Sink.taken c.args.outside.now.sink in
    let a = c.in-Ok.answer in
    let taken' = g.K.Sink.taken c.finish-in-Ok.new.sink in
    let before = g.K.Sink.faults c.args.outside.now.sink in
    let now = g.K.Sink.faults c.finish-in-Ok.new.sink in
    answer_says play count consumers stores (map (kept_by g.D.LogStore.synced g.D.LogStore.pending g.D.LogStore.faults g.D.LogStore.writes) c.answer_source.new.stores.items) left (g.S.Source.left c.answer_source.new.source) taken taken' before now a.status c.finish-in-Ok.result a.text
    (sym c.if-not-is_command.ensures)
    (subst (λ (n : ℕ). AnswersSource count n stores (map (kept_by g.D.LogStore.synced g.D.LogStore.pending g.D.LogStore.faults g.D.LogStore.writes) c.answer_source.new.stores.items) left
    (g.S.Source.left c.answer_source.new.source) a.status a.text) c.len-consumers.ensures c.in-Ok.ensures.answers)
    (subst (λ (text : List ℕ). Finishes a.status c.finish-in-Ok.result text taken taken' before now) c.as_bytes.ensures c.finish-in-Ok.ensures)

pub returns-in-Ok-clause-usage : goal.returns-in-Ok-clause-usage
returns-in-Ok-clause-usage g c =
    let play = is_play c.args.words.now in
    let count = vec_len c.args.outside.now.stores in
    let consumers = vec_len c.args.outside.now.consumers in
    let stores = map (kept_by g.D.LogStore.synced g.D.LogStore.pending g.D.LogStore.faults g.D.LogStore.writes) c.args.outside.now.stores.items in
    let left = g.S.Source.left c.args.outside.now.source in
    let taken = g.K.Sink.taken c.args.outside.now.sink in
    tells_usage play count consumers stores (map (kept_by g.D.LogStore.synced g.D.LogStore.pending g.D.LogStore.faults g.D.LogStore.writes) c.answer_source.new.stores.items) left taken (g.K.Sink.taken c.finish-in-Ok.new.sink) c.finish-in-Ok.result (returns-in-Ok-clause-says g c)

pub returns-in-Ok-clause-refusal : goal.returns-in-Ok-clause-refusal
returns-in-Ok-clause-refusal g c =
    let play = is_play c.args.words.now in
    let count = vec_len c.args.outside.now.stores in
    let consumers = vec_len c.args.outside.now.consumers in
    let stores = map (kept_by g.D.LogStore.synced g.D.LogStore.pending g.D.LogStore.faults g.D.LogStore.writes) c.args.outside.now.stores.items in
    let left = g.S.Source.left c.args.outside.now.source in
    let taken = g.K.Sink.taken c.args.outside.now.sink in
    tells_refusal play count consumers stores (map (kept_by g.D.LogStore.synced g.D.LogStore.pending g.D.LogStore.faults g.D.LogStore.writes) c.answer_source.new.stores.items) left taken (g.K.Sink.taken c.finish-in-Ok.new.sink) c.finish-in-Ok.result (returns-in-Ok-clause-says g c)

pub returns-in-Ok-clause-store_refused : goal.returns-in-Ok-clause-store_refused
returns-in-Ok-clause-store_refused g c =
    let play = is_play c.args.words.now in
    let count = vec_len c.args.outside.now.stores in
    let consumers = vec_len c.args.outside.now.consumers in
    let stores = map (kept_by g.D.LogStore.synced g.D.LogStore.pending g.D.LogStore.faults g.D.LogStore.writes) c.args.outside.now.stores.items in
    let left = g.S.Source.left c.args.outside.now.source in
    let taken = g.K.Sink.taken c.args.outside.now.sink in
    tells_store_refused play count consumers stores (map (kept_by g.D.LogStore.synced g.D.LogStore.pending g.D.LogStore.faults g.D.LogStore.writes) c.answer_source.new.stores.items) left taken (g.K.Sink.taken c.finish-in-Ok.new.sink) c.finish-in-Ok.result (returns-in-Ok-clause-says g c)

pub returns-in-Ok-clause-unsound : goal.returns-in-Ok-clause-unsound
returns-in-Ok-clause-unsound g c =
    let play = is_play c.args.words.now in
    let count = vec_len c.args.outside.now.stores in
    let consumers = vec_len c.args.outside.now.consumers in
    let stores = map (kept_by g.D.LogStore.synced g.D.LogStore.pending g.D.LogStore.faults g.D.LogStore.writes) c.args.outside.now.stores.items in
    let left = g.S.Source.left c.args.outside.now.source in
    let taken = g.K.Sink.taken c.args.outside.now.sink in
    tells_unsound play count consumers stores (map (kept_by g.D.LogStore.synced g.D.LogStore.pending g.D.LogStore.faults g.D.LogStore.writes) c.answer_source.new.stores.items) left taken (g.K.Sink.taken c.finish-in-Ok.new.sink) c.finish-in-Ok.result (returns-in-Ok-clause-says g c)

pub returns-in-Err-clause-says : goal.returns-in-Err-clause-says
returns-in-Err-clause-says g c =
    let play = is_play c.args.words.now in
    let count = vec_len c.args.outside.now.stores in
    let consumers = vec_len c.args.outside.now.consumers in
    let stores = map (kept_by g.D.LogStore.synced g.D.LogStore.pending g.D.LogStore.faults g.D.LogStore.writes) c.args.outside.now.stores.items in
    let left = g.S.Source.left c.args.outside.now.source in
    let taken = g.K.Sink.taken c.args.outside.now.sink in
    stop_says play count consumers stores (map (kept_by g.D.LogStore.synced g.D.LogStore.pending g.D.LogStore.faults g.D.LogStore.writes) c.answer_source.new.stores.items) left taken c.in-Err.stop (sym c.if-not-is_command.ensures)
    (subst (λ (n : ℕ). StopsAt count n stores (map (kept_by g.D.LogStore.synced g.D.LogStore.pending g.D.LogStore.faults g.D.LogStore.writes) c.answer_source.new.stores.items) left c.in-Err.stop) c.len-consumers.ensures c.in-Err.ensures.stops)

pub returns-in-Err-clause-usage : goal.returns-in-Err-clause-usage
returns-in-Err-clause-usage g c =
    let play = is_play c.args.words.now in
    let count = vec_len c.args.outside.now.stores in
    let consumers = vec_len c.args.outside.now.consumers in
    let stores = map (kept_by g.D.LogStore.synced g.D.LogStore.pending g.D.LogStore.faults g.D.LogStore.writes) c.args.outside.now.stores.items in
    let left = g.S.Source.left c.args.outside.now.source in
    let taken = g.K.Sink.taken c.args.outside.now.sink in
    tells_usage play count consumers stores (map (kept_by g.D.LogStore.synced g.D.LogStore.pending g.D.LogStore.faults g.D.LogStore.writes) c.answer_source.new.stores.items) left taken taken c.in-Err.stop (returns-in-Err-clause-says g c)

pub returns-in-Err-clause-refusal : goal.returns-in-Err-clause-refusal
returns-in-Err-clause-refusal g c =
    let play = is_play c.args.words.now in
    let count = vec_len c.args.outside.now.stores in
    let consumers = vec_len c.args.outside.now.consumers in
    let stores = map (kept_by g.D.LogStore.synced g.D.LogStore.pending g.D.LogStore.faults g.D.LogStore.writes) c.args.outside.now.stores.items in
    let left = g.S.Source.left c.args.outside.now.source in
    let taken = g.K.Sink.taken c.args.outside.now.sink in
    tells_refusal play count consumers stores (map (kept_by g.D.LogStore.synced g.D.LogStore.pending g.D.LogStore.faults g.D.LogStore.writes) c.answer_source.new.stores.items) left taken taken c.in-Err.stop (returns-in-Err-clause-says g c)

pub returns-in-Err-clause-store_refused : goal.returns-in-Err-clause-store_refused
returns-in-Err-clause-store_refused g c =
    let play = is_play c.args.words.now in
    let count = vec_len c.args.outside.now.stores in
    let consumers = vec_len c.args.outside.now.consumers in
    let stores = map (kept_by g.D.LogStore.synced g.D.LogStore.pending g.D.LogStore.faults g.D.LogStore.writes) c.args.outside.now.stores.items in
    let left = g.S.Source.left c.args.outside.now.source in
    let taken = g.K.Sink.taken c.args.outside.now.sink in
    tells_store_refused play count consumers stores (map (kept_by g.D.LogStore.synced g.D.LogStore.pending g.D.LogStore.faults g.D.LogStore.writes) c.answer_source.new.stores.items) left taken taken c.in-Err.stop (returns-in-Err-clause-says g c)

pub returns-in-Err-clause-unsound : goal.returns-in-Err-clause-unsound
returns-in-Err-clause-unsound g c =
    let play = is_play c.args.words.now in
    let count = vec_len c.args.outside.now.stores in
    let consumers = vec_len c.args.outside.now.consumers in
    let stores = map (kept_by g.D.LogStore.synced g.D.LogStore.pending g.D.LogStore.faults g.D.LogStore.writes) c.args.outside.now.stores.items in
    let left = g.S.Source.left c.args.outside.now.source in
    let taken = g.K.Sink.taken c.args.outside.now.sink in
    tells_unsound play count consumers stores (map (kept_by g.D.LogStore.synced g.D.LogStore.pending g.D.LogStore.faults g.D.LogStore.writes) c.answer_source.new.stores.items) left taken taken c.in-Err.stop (returns-in-Err-clause-says g c)

pub returns-then-not-is_command-clause-complete : goal.returns-then-not-is_command-clause-complete
returns-then-not-is_command-clause-complete g c quiet calm =
    let play = is_play c.args.words.now in
    let count = vec_len c.args.outside.now.stores in
    let consumers = vec_len c.args.outside.now.consumers in
    let stores = map (kept_by g.D.LogStore.synced g.D.LogStore.pending g.D.LogStore.faults g.D.LogStore.writes) c.args.outside.now.stores.items in
    let left = g.S.Source.left c.args.outside.now.source in
    let taken = g.K.Sink.taken c.args.outside.now.sink in
    completes_off play count consumers stores left c.finish.result (sym c.if-not-is_command.ensures)

pub returns-then-not-is_command-clause-again : goal.returns-then-not-is_command-clause-again
returns-then-not-is_command-clause-again g c =
    let play = is_play c.args.words.now in
    let count = vec_len c.args.outside.now.stores in
    let consumers = vec_len c.args.outside.now.consumers in
    let stores = map (kept_by g.D.LogStore.synced g.D.LogStore.pending g.D.LogStore.faults g.D.LogStore.writes) c.args.outside.now.stores.items in
    let left = g.S.Source.left c.args.outside.now.source in
    let taken = g.K.Sink.taken c.args.outside.now.sink in
    stands_again play count consumers stores stores left taken (g.K.Sink.taken c.finish.new.sink) c.finish.result (returns-then-not-is_command-clause-says g c)

pub returns-in-Ok-clause-complete : goal.returns-in-Ok-clause-complete
returns-in-Ok-clause-complete g c quiet calm =
    let play = is_play c.args.words.now in
    let count = vec_len c.args.outside.now.stores in
    let consumers = vec_len c.args.outside.now.consumers in
    let stores = map (kept_by g.D.LogStore.synced g.D.LogStore.pending g.D.LogStore.faults g.D.LogStore.writes) c.args.outside.now.stores.items in
    let left = g.S.Source.left c.args.outside.now.source in
    let taken = g.K.Sink.taken c.args.outside.now.sink in
    let stores' = (map (kept_by g.D.LogStore.synced g.D.LogStore.pending g.D.LogStore.faults g.D.LogStore.writes) c.answer_source.new.stores.items) in
    let taken' = g.K.Sink.taken c.finish-in-Ok.new.sink in
    let before = g.K.Sink.faults c.args.outside.now.sink in
    let now = g.K.Sink.faults c.finish-in-Ok.new.sink in
    let a = c.in-Ok.answer in
    let answers = c.in-Ok.ensures.answers in
    let fin = subst (λ (text : List ℕ). Finishes a.status c.finish-in-Ok.result text taken taken' before now) c.as_bytes.ensures c.finish-in-Ok.ensures in
    completes play count consumers stores stores' left taken taken' c.finish-in-Ok.result (returns-in-Ok-clause-says g c)
    (no_read_fault true answers.script stores stores' a.status c.finish-in-Ok.result a.text taken taken' before now answers.is_text fin)
    (λ fault. calm (write_rose true answers.script stores stores' a.status c.finish-in-Ok.result a.text taken taken' before now answers.is_text fin fault))

pub returns-in-Ok-clause-again : goal.returns-in-Ok-clause-again
returns-in-Ok-clause-again g c =
    let play = is_play c.args.words.now in
    let count = vec_len c.args.outside.now.stores in
    let consumers = vec_len c.args.outside.now.consumers in
    let stores = map (kept_by g.D.LogStore.synced g.D.LogStore.pending g.D.LogStore.faults g.D.LogStore.writes) c.args.outside.now.stores.items in
    let left = g.S.Source.left c.args.outside.now.source in
    let taken = g.K.Sink.taken c.args.outside.now.sink in
    stands_again play count consumers stores (map (kept_by g.D.LogStore.synced g.D.LogStore.pending g.D.LogStore.faults g.D.LogStore.writes) c.answer_source.new.stores.items) left taken (g.K.Sink.taken c.finish-in-Ok.new.sink) c.finish-in-Ok.result (returns-in-Ok-clause-says g c)

pub returns-in-Err-clause-complete : goal.returns-in-Err-clause-complete
returns-in-Err-clause-complete g c quiet calm =
    let play = is_play c.args.words.now in
    let count = vec_len c.args.outside.now.stores in
    let consumers = vec_len c.args.outside.now.consumers in
    let stores = map (kept_by g.D.LogStore.synced g.D.LogStore.pending g.D.LogStore.faults g.D.LogStore.writes) c.args.outside.now.stores.items in
    let left = g.S.Source.left c.args.outside.now.source in
    let taken = g.K.Sink.taken c.args.outside.now.sink in
    completes play count consumers stores (map (kept_by g.D.LogStore.synced g.D.LogStore.pending g.D.LogStore.faults g.D.LogStore.writes) c.answer_source.new.stores.items) left taken taken c.in-Err.stop (returns-in-Err-clause-says g c)
    (λ fault. quiet (c.in-Err.ensures.fault (ap Err fault)))
    (stop_written c.in-Err.stop c.in-Err.ensures.stops.script stores (map (kept_by g.D.LogStore.synced g.D.LogStore.pending g.D.LogStore.faults g.D.LogStore.writes) c.answer_source.new.stores.items) c.in-Err.ensures.stops.stop)

pub returns-in-Err-clause-again : goal.returns-in-Err-clause-again
returns-in-Err-clause-again g c =
    let play = is_play c.args.words.now in
    let count = vec_len c.args.outside.now.stores in
    let consumers = vec_len c.args.outside.now.consumers in
    let stores = map (kept_by g.D.LogStore.synced g.D.LogStore.pending g.D.LogStore.faults g.D.LogStore.writes) c.args.outside.now.stores.items in
    let left = g.S.Source.left c.args.outside.now.source in
    let taken = g.K.Sink.taken c.args.outside.now.sink in
    stands_again play count consumers stores (map (kept_by g.D.LogStore.synced g.D.LogStore.pending g.D.LogStore.faults g.D.LogStore.writes) c.answer_source.new.stores.items) left taken taken c.in-Err.stop (returns-in-Err-clause-says g c)
