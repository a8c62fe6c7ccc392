use Rattle.std.proofs.Common.{◌≡◌, ◌+◌, ◌++◌, ◌∷◌, [], true, false, length, List, OnOk, Err, ap, subst, sym, ◌∙◌}
use Rattle.blkseq_table.proofs.LogLemmas.{of_below}
use Rattle.blkseq_table.specs.Known.{Known, AreBelow, IsAbsent}
use Rattle.blkseq_table.specs.OfLogs.{identities_of, known_of}
use Rattle.node_log.specs.Logged.{Leaves, Logged, with_entry}
use Rattle.phys_log.specs.declared.entries.Entry.{Entry}
use Rattle.script_play.proofs.KnownLemmas.{fresh_absent, known_back, known_more, known_up}
use Rattle.undo_snapshot.proofs.PositionLemmas.{grown_of_log}
use Rattle.undo_snapshot.specs.Positions.{AreOfLog}
use Rattle.script_play.proofs.indexed.IndexedLog.append.Goals as goal

-- no entry has the identity that is put in, and it stands above all others
pub tell-told-requires-clause-absent : goal.tell-told-requires-clause-absent
tell-told-requires-clause-absent g c = λ id has.
    subst (λ (known : List Known). IsAbsent known id)
    (sym (known_up c.self.inside.log c.args.self.now c.self.inside.known c.self.view_is c.requires.running c.self.invariant.0 ∙ ap (λ (l : Logged). identities_of l.entries) c.self.view_is))
    (fresh_absent c.args.self.now.entries c.args.entry c.requires.fresh id has)

pub tell-told-requires-clause-above : goal.tell-told-requires-clause-above
tell-told-requires-clause-above g c =
    subst (λ (known : List Known). AreBelow known (length c.entries.result.now + 1)) (sym (known_up c.self.inside.log c.args.self.now c.self.inside.known c.self.view_is c.requires.running c.self.invariant.0))
    (subst (λ (es : List Entry). AreBelow (identities_of c.self.inside.log.entries) (length es + 1)) (sym (c.entries.ensures ∙ c.log.ensures.entries)) (of_below c.self.inside.log.entries))

-- behind it the identities are those of the log again, which has the entry, or is as it was
pub invariant_of-self-in-Ok-append : goal.invariant_of-self-in-Ok-append
invariant_of-self-in-Ok-append g c = (
  λ _. known_more c.self.inside.log.entries c.args.entry c.self.inside.known c.tell-told.new.known
      (known_up c.self.inside.log c.args.self.now c.self.inside.known c.self.view_is c.requires.running c.self.invariant.0) told
      ∙ ap (λ (e : Entry). identities_of (c.self.inside.log.entries ++ e ∷ [])) (sym c.in-Ok.ensures.0)
      ∙ ap (λ (l : Logged). identities_of l.entries) (sym c.in-Ok-append.ensures.added),
  subst (λ (l : Logged). AreOfLog l.entries c.self.inside.undone) (sym c.in-Ok-append.ensures.added) (grown_of_log c.self.inside.log.entries (_ ∷ []) c.self.inside.undone c.self.invariant.1),
)
  where
    told : c.tell-told.new.known ≡ c.self.inside.known ++ known_of (length c.self.inside.log.entries + 1) c.args.entry
    told = subst (λ r. OnOk r (c.tell-told.new.known ≡ c.self.inside.known ++ known_of (length c.entries.result.now + 1) c.args.entry)) c.in-Ok.ensures.1 c.tell-told.ensures.last
        ∙ ap (λ (es : List Entry). c.self.inside.known ++ known_of (length es + 1) c.args.entry) (c.entries.ensures ∙ c.log.ensures.entries)

pub invariant_of-self-in-Err-NoMemory : goal.invariant_of-self-in-Err-NoMemory
invariant_of-self-in-Err-NoMemory g c = (
  λ _. known_back c.self.inside.log.entries c.args.entry c.tell-told.new.known c.drop_above.new.self (length c.entries.result.now)
      (known_more c.self.inside.log.entries c.args.entry c.self.inside.known c.tell-told.new.known
      (known_up c.self.inside.log c.args.self.now c.self.inside.known c.self.view_is c.requires.running c.self.invariant.0) told)
      (ap (λ (es : List Entry). length es) (c.entries.ensures ∙ c.log.ensures.entries)) c.drop_above.ensures
      ∙ ap (λ (l : Logged). identities_of l.entries) (sym (c.in-Err-NoMemory.ensures.unchanged (ap Err c.in-Err-NoMemory.field-0-is))),
  subst (λ (l : Logged). AreOfLog l.entries c.self.inside.undone) (sym (c.in-Err-NoMemory.ensures.unchanged (ap Err c.in-Err-NoMemory.field-0-is))) c.self.invariant.1,
)
  where
    told : c.tell-told.new.known ≡ c.self.inside.known ++ known_of (length c.self.inside.log.entries + 1) c.args.entry
    told = subst (λ r. OnOk r (c.tell-told.new.known ≡ c.self.inside.known ++ known_of (length c.entries.result.now + 1) c.args.entry)) c.in-Ok.ensures.1 c.tell-told.ensures.last
        ∙ ap (λ (es : List Entry). c.self.inside.known ++ known_of (length es + 1) c.args.entry) (c.entries.ensures ∙ c.log.ensures.entries)

pub invariant_of-self-in-Err-StoreFault : goal.invariant_of-self-in-Err-StoreFault
invariant_of-self-in-Err-StoreFault g c = (
  λ up. let bad : true ≡ false = sym (ap (λ (l : Logged). l.failed) (c.in-Err-StoreFault.ensures.failed (ap Err c.in-Err-StoreFault.field-0-is))) ∙ up in absurd cc,
  subst (λ (l : Logged). AreOfLog l.entries c.self.inside.undone) (sym (c.in-Err-StoreFault.ensures.failed (ap Err c.in-Err-StoreFault.field-0-is)))
      (grown_of_log c.self.inside.log.entries (_ ∷ []) c.self.inside.undone c.self.invariant.1),
)

pub returns-in-Err-StoreFault-clause-left : goal.returns-in-Err-StoreFault-clause-left
returns-in-Err-StoreFault-clause-left g c = λ _.
    subst (λ (l : Logged). Leaves c.append.new.self.store (l ∷ with_entry l c.args.entry ∷ [])) c.self.view_is
    (subst (λ (e : Entry). Leaves c.append.new.self.store (c.self.inside.log ∷ with_entry c.self.inside.log e ∷ [])) c.in-Ok.ensures.0
    (c.in-Err-StoreFault.ensures.left (ap Err c.in-Err-StoreFault.field-0-is)))
