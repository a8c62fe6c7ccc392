use Rattle.std.proofs.Common.{subst, ◌≡◌, ◌++◌, ◌∷◌, [], true, sym, ap, ◌∙◌}
use Rattle.kept_log.proofs.KeptLemmas.{both_ok, fails_over, is_failed, same_over, entries_over}
use Rattle.kept_log.specs.Kept.{OverStore, kept, kept_by}
use Rattle.node_log.specs.Logged.{Logged, with_entry}
use Rattle.phys_log.specs.Logs.{Fits}
use Rattle.store_log.specs.Held.{generation_of}
use Rattle.kept_log.proofs.logs.KeptLog.append.Goals as goal

pub returns-clause-added : goal.returns-clause-added
returns-clause-added g c =
    let l = c.take_open-log.result in
    let m = c.append_to-told.new.log in
    both_ok c.append_to-told.result _ _ _ (λ e calm.
    entries_over l m c.args.self.now _ (λ es. es ++ c.args.entry ∷ []) (sym c.self.view_is ∙ c.take_open-log.ensures.is)
    (c.placed.ensures.running (ap (λ (x : Logged). x.failed) e ∙ c.take_open-log.ensures.running)) e calm)
    c.append_to-told.ensures.added c.append_to-told.ensures.calm

pub returns-clause-unchanged : goal.returns-clause-unchanged
returns-clause-unchanged g c = λ no.
    let l = c.take_open-log.result in
    let m = c.append_to-told.new.log in
    let e = c.append_to-told.ensures.unchanged no in
    same_over l m c.args.self.now _ (sym c.self.view_is ∙ c.take_open-log.ensures.is)
    (c.placed.ensures.running (ap (λ (x : Logged). x.failed) e ∙ c.take_open-log.ensures.running)) e

pub returns-clause-fails : goal.returns-clause-fails
returns-clause-fails g c = λ no.
    let l = c.take_open-log.result in
    let m = c.append_to-told.new.log in
    let e = c.append_to-told.ensures.failed no in
    let is : m.failed ≡ true = is_failed l m e in
    fails_over l m c.args.self.now _ (λ (o : OverStore). kept_by o ∷ kept o.promised o.accepted (o.entries ++ c.args.entry ∷ []) ∷ [])
    (sym c.self.view_is ∙ c.take_open-log.ensures.is) e (c.placed.ensures.stopped is) (c.append_to-told.ensures.rose no)
    (c.placed.ensures.left is (l ∷ with_entry l c.args.entry ∷ []) (c.append_to-told.ensures.left no))

pub take_open-log-requires-clause-running : goal.take_open-log-requires-clause-running
take_open-log-requires-clause-running g c = ap (λ (x : OverStore). x.is_open) c.self.view_is ∙ c.requires.running

pub append_to-told-requires-clause-accepted : goal.append_to-told-requires-clause-accepted
append_to-told-requires-clause-accepted g c = subst (λ (x : OverStore). generation_of c.args.entry ≡ x.accepted) (sym c.self.view_is ∙ c.take_open-log.ensures.is) c.requires.accepted

pub append_to-told-requires-clause-fits : goal.append_to-told-requires-clause-fits
append_to-told-requires-clause-fits g c = subst (λ (x : OverStore). Fits x.entries c.args.entry) (sym c.self.view_is ∙ c.take_open-log.ensures.is) c.requires.fits
