use Rattle.std.proofs.Common.{◌≡◌, refl, ◌+◌, ◌<◌, ◌≤◌, List, ◌++◌, ◌∷◌, [], None, take, drop, length, sym, ap, ◌∙◌, arith}
use Rattle.std.proofs.lemmas.List.{take_more, length-take-le, take-append-drop}
use Rattle.phys_log.specs.declared.entries.Entry.{Entry}
use Rattle.phys_log.specs.Logs.{last_lsn_of}
use Rattle.log_replay.specs.Chains.{chain_of}
use Rattle.log_replay.specs.Kept.{room_in}
use Rattle.log_replay.proofs.AppendLemmas.{kept_append, next_asked}
use Rattle.log_replay.proofs.KeptLemmas.{roomy_on}
use Rattle.log_replay.proofs.LogLemmas.{log_out}
use Rattle.log_replay.proofs.TailLemmas.{front_more, made_on, room_on, next_on}
use Rattle.log_replay.proofs.tails.put_back.Goals as goal

pub redo_each-requires-clause-next : goal.redo_each-requires-clause-next
redo_each-requires-clause-next c =
    let entries = c.args.entries.now in
    let i = c.loop-i.i in
    let e = c.index-entries-i.result in
    let within : i < length entries = c.loop-i-test.true in
    let more : take (i + 1) entries ≡ take i entries ++ e ∷ [] = take_more entries i e within ∙ ap (λ (x : Entry). take i entries ++ x ∷ []) (sym c.index-entries-i.is) in
    made_on (take i entries) e c.loop-i.pages c.records.result.now c.loop-i.invariant.kept
    (front_more entries i e within (log_out entries c.requires.logged) more) c.records.ensures

pub redo_each-requires-clause-room : goal.redo_each-requires-clause-room
redo_each-requires-clause-room c = λ n.
    let entries = c.args.entries.now in
    let i = c.loop-i.i in
    let e = c.index-entries-i.result in
    let within : i < length entries = c.loop-i-test.true in
    let more : take (i + 1) entries ≡ take i entries ++ e ∷ [] = take_more entries i e within ∙ ap (λ (x : Entry). take i entries ++ x ∷ []) (sym c.index-entries-i.is) in
    let split : entries ≡ (take i entries ++ e ∷ []) ++ drop (i + 1) entries = sym (take-append-drop (i + 1) entries) ∙ ap (λ (l : List Entry). l ++ drop (i + 1) entries) more in
    let long : length (take i entries) ≡ i = length-take-le i entries (omega arith) in
    let at : i + 1 ≡ 1 + length (take i entries) = omega arith in
    let has : length (chain_of entries n) ≤ room_in c.args.pages.now n = c.requires.room n in
    let more_room : room_in c.args.pages.now n ≤ room_in c.loop-i.pages n = c.loop-i.invariant.roomy n in
    let fits : length (chain_of entries n) ≤ room_in c.loop-i.pages n = omega arith in
    room_on entries (take i entries) (drop (i + 1) entries) e c.loop-i.pages c.records.result.now (i + 1) n (room_in c.loop-i.pages n) split
    c.loop-i.invariant.kept c.records.ensures at fits

pub loop-i-preserved : goal.loop-i-preserved
loop-i-preserved c =
    let entries = c.args.entries.now in
    let i = c.loop-i.i in
    let e = c.index-entries-i.result in
    let within : i < length entries = c.loop-i-test.true in
    let more : take (i + 1) entries ≡ take i entries ++ e ∷ [] = take_more entries i e within ∙ ap (λ (x : Entry). take i entries ++ x ∷ []) (sym c.index-entries-i.is) in
    let long : length (take i entries) ≡ i = length-take-le i entries (omega arith) in
    let at : i + 1 ≡ length (take i entries) + 1 = omega arith in
    let log = front_more entries i e within (log_out entries c.requires.logged) more in
    let p = c.loop-i.pages in
    let next = next_asked (take i entries) e p c.records.result.now (last_lsn_of (take i entries)) c.records.ensures refl (next_on (take i entries) e p None c.loop-i.invariant.kept log) in
    record {
      kept = kept_append (take i entries) (take (i + 1) entries) e c.records.result.now (last_lsn_of (take i entries)) (i + 1) p c.redo_each.new.pages None None
          c.loop-i.invariant.kept more c.records.ensures refl at next c.redo_each.ensures.made c.redo_each.ensures.linked tt;
      roomy = roomy_on c.args.pages.now p c.redo_each.new.pages c.loop-i.invariant.roomy c.redo_each.ensures.roomy;
    }
