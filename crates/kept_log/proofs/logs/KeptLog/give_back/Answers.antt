use Rattle.std.proofs.Common.{[], ◌∷◌, sym, subst, ap, ◌∙◌}
use Rattle.kept_log.specs.Kept.{HoldsAny, OverStore, kept_by, opened_over, over_of}
use Rattle.kept_log.proofs.logs.KeptLog.give_back.Goals as goal

pub returns-in-Open-clause-holds : goal.returns-in-Open-clause-holds
returns-in-Open-clause-holds g c = λ up.
    subst (λ (x : OverStore). HoldsAny x (kept_by x ∷ [])) (ap opened_over c.in-Open.log-is ∙ (sym (ap over_of c.in-Open.is) ∙ c.self.view_is)) c.shut.ensures.holds
