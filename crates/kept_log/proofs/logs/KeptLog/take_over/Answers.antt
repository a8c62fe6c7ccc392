use Rattle.std.proofs.Common.{◌<◌, ◌≤◌, length, subst, ◌≡◌, ◌++◌, ◌∷◌, [], take, true, sym, ap, ◌∙◌}
use Rattle.kept_log.proofs.KeptLemmas.{both_ok, fails_over, is_failed, same_over, taken_over}
use Rattle.kept_log.specs.Kept.{OverStore, kept, kept_by}
use Rattle.node_log.specs.Logged.{Logged, with_promise}
use Rattle.node_log.specs.Taken.{with_taken}
use Rattle.phys_log.specs.Logs.{IsLog}
use Rattle.kept_log.proofs.logs.KeptLog.take_over.Goals as goal

pub returns-clause-taken : goal.returns-clause-taken
returns-clause-taken g c =
    let l = c.take_open-log.result in
    let m = c.take_over-told.new.self in
    both_ok c.take_over-told.result _ _ _ (λ e calm.
    taken_over l m c.args.self.now _ c.args.generation (λ es. take c.args.front es ++ c.args.entries.items) (sym c.self.view_is ∙ c.take_open-log.ensures.is)
    (c.placed.ensures.running (ap (λ (x : Logged). x.failed) e ∙ c.take_open-log.ensures.running)) e calm)
    c.take_over-told.ensures.taken c.take_over-told.ensures.calm

pub returns-clause-unchanged : goal.returns-clause-unchanged
returns-clause-unchanged g c = λ no.
    let l = c.take_open-log.result in
    let m = c.take_over-told.new.self in
    let e = c.take_over-told.ensures.unchanged no in
    same_over l m c.args.self.now _ (sym c.self.view_is ∙ c.take_open-log.ensures.is)
    (c.placed.ensures.running (ap (λ (x : Logged). x.failed) e ∙ c.take_open-log.ensures.running)) e

pub returns-clause-fails : goal.returns-clause-fails
returns-clause-fails g c = λ no.
    let l = c.take_open-log.result in
    let m = c.take_over-told.new.self in
    let e = c.take_over-told.ensures.failed no in
    let is : m.failed ≡ true = is_failed l m e in
    fails_over l m c.args.self.now _ (λ (o : OverStore). kept_by o ∷ kept c.args.generation o.accepted o.entries ∷ kept c.args.generation c.args.generation (take c.args.front o.entries ++ c.args.entries.items) ∷ [])
    (sym c.self.view_is ∙ c.take_open-log.ensures.is) e (c.placed.ensures.stopped is) (c.take_over-told.ensures.rose no)
    (c.placed.ensures.left is (l ∷ with_promise l c.args.generation ∷ with_taken l c.args.generation c.args.front c.args.entries.items ∷ []) (c.take_over-told.ensures.left no))

pub take_open-log-requires-clause-running : goal.take_open-log-requires-clause-running
take_open-log-requires-clause-running g c = ap (λ (x : OverStore). x.is_open) c.self.view_is ∙ c.requires.running

pub take_over-told-requires-clause-promised : goal.take_over-told-requires-clause-promised
take_over-told-requires-clause-promised g c = subst (λ (x : OverStore). x.promised ≤ c.args.generation) (sym c.self.view_is ∙ c.take_open-log.ensures.is) c.requires.promised

pub take_over-told-requires-clause-accepted : goal.take_over-told-requires-clause-accepted
take_over-told-requires-clause-accepted g c = subst (λ (x : OverStore). x.accepted < c.args.generation) (sym c.self.view_is ∙ c.take_open-log.ensures.is) c.requires.accepted

pub take_over-told-requires-clause-within : goal.take_over-told-requires-clause-within
take_over-told-requires-clause-within g c = subst (λ (x : OverStore). c.args.front ≤ length x.entries) (sym c.self.view_is ∙ c.take_open-log.ensures.is) c.requires.within

pub take_over-told-requires-clause-fits : goal.take_over-told-requires-clause-fits
take_over-told-requires-clause-fits g c = subst (λ (x : OverStore). IsLog (take c.args.front x.entries ++ c.args.entries.items)) (sym c.self.view_is ∙ c.take_open-log.ensures.is) c.requires.fits
