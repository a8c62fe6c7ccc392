use Rattle.std.proofs.Common.{◌∷◌, [], Err, length, sym, ap, ◌∙◌, subst}
use Rattle.cdb_outside.specs.Faults.{Rose}
use Rattle.node_log.specs.Logged.{Leaves, Logged, with_entry}
use Rattle.store_log.specs.Keeps.{Stored}
use Rattle.kept_log.proofs.KeptLemmas.{entry_back, within_back}
use Rattle.kept_log.proofs.places.append_to.Goals as goal

pub returns-in-Err-StoreFault-clause-failed : goal.returns-in-Err-StoreFault-clause-failed
returns-in-Err-StoreFault-clause-failed g c = λ _.
    entry_back c.args.log.now c.append.new.self c.drop_tail.new.self c.args.entry (length c.entries.result.now)
    (c.in-Err-StoreFault.ensures.failed (ap Err c.in-Err-StoreFault.field-0-is)) c.drop_tail.ensures
    (ap length (c.entries.ensures ∙ c.log.ensures.entries))

pub returns-in-Err-StoreFault-clause-rose : goal.returns-in-Err-StoreFault-clause-rose
returns-in-Err-StoreFault-clause-rose g c = λ _.
    subst (λ (s : Stored). Rose c.args.log.now.store.faults s.faults) (sym (ap (λ (l : Logged). l.store) c.drop_tail.ensures))
    (c.in-Err-StoreFault.ensures.rose (ap Err c.in-Err-StoreFault.field-0-is))

pub returns-in-Err-StoreFault-clause-left : goal.returns-in-Err-StoreFault-clause-left
returns-in-Err-StoreFault-clause-left g c = λ _.
    subst (λ (s : Stored). Leaves s (c.args.log.now ∷ with_entry c.args.log.now c.args.entry ∷ [])) (sym (ap (λ (l : Logged). l.store) c.drop_tail.ensures))
    (c.in-Err-StoreFault.ensures.left (ap Err c.in-Err-StoreFault.field-0-is))

pub drop_tail-requires-clause-failed : goal.drop_tail-requires-clause-failed
drop_tail-requires-clause-failed g c = ap (λ (l : Logged). l.failed) (c.in-Err-StoreFault.ensures.failed (ap Err c.in-Err-StoreFault.field-0-is))

pub drop_tail-requires-clause-within : goal.drop_tail-requires-clause-within
drop_tail-requires-clause-within g c =
    within_back c.args.log.now c.append.new.self c.args.entry (length c.entries.result.now)
    (c.in-Err-StoreFault.ensures.failed (ap Err c.in-Err-StoreFault.field-0-is)) (ap length (c.entries.ensures ∙ c.log.ensures.entries))
