use Rattle.std.proofs.Common.{◌<◌, subst, ◌≡◌, ◌∷◌, [], true, sym, ap, ◌∙◌}
use Rattle.kept_log.proofs.KeptLemmas.{both_ok, fails_over, is_failed, same_over, promised_over}
use Rattle.kept_log.specs.Kept.{OverStore, kept, kept_by}
use Rattle.node_log.specs.Logged.{Logged, with_promise}
use Rattle.kept_log.proofs.logs.KeptLog.promise.Goals as goal

pub returns-clause-promised : goal.returns-clause-promised
returns-clause-promised g c =
    let l = c.take_open-log.result in
    let m = c.promise-told.new.self in
    both_ok c.promise-told.result _ _ _ (λ e calm.
    promised_over l m c.args.self.now _ c.args.generation (sym c.self.view_is ∙ c.take_open-log.ensures.is)
    (c.placed.ensures.running (ap (λ (x : Logged). x.failed) e ∙ c.take_open-log.ensures.running)) e calm)
    c.promise-told.ensures.promised c.promise-told.ensures.calm

pub returns-clause-unchanged : goal.returns-clause-unchanged
returns-clause-unchanged g c = λ no.
    let l = c.take_open-log.result in
    let m = c.promise-told.new.self in
    let e = c.promise-told.ensures.unchanged no in
    same_over l m c.args.self.now _ (sym c.self.view_is ∙ c.take_open-log.ensures.is)
    (c.placed.ensures.running (ap (λ (x : Logged). x.failed) e ∙ c.take_open-log.ensures.running)) e

pub returns-clause-fails : goal.returns-clause-fails
returns-clause-fails g c = λ no.
    let l = c.take_open-log.result in
    let m = c.promise-told.new.self in
    let e = c.promise-told.ensures.failed no in
    let is : m.failed ≡ true = is_failed l m e in
    fails_over l m c.args.self.now _ (λ (o : OverStore). kept_by o ∷ kept c.args.generation o.accepted o.entries ∷ [])
    (sym c.self.view_is ∙ c.take_open-log.ensures.is) e (c.placed.ensures.stopped is) (c.promise-told.ensures.rose no)
    (c.placed.ensures.left is (l ∷ with_promise l c.args.generation ∷ []) (c.promise-told.ensures.left no))

pub take_open-log-requires-clause-running : goal.take_open-log-requires-clause-running
take_open-log-requires-clause-running g c = ap (λ (x : OverStore). x.is_open) c.self.view_is ∙ c.requires.running

pub promise-told-requires-clause-above : goal.promise-told-requires-clause-above
promise-told-requires-clause-above g c = subst (λ (x : OverStore). x.promised < c.args.generation) (sym c.self.view_is ∙ c.take_open-log.ensures.is) c.requires.above
