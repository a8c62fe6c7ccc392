use Rattle.std.proofs.Common.{◌≡◌, sym, subst, ap, ◌∙◌, IfOk, IfErr, OnOk}
use Rattle.kept_log.proofs.KeptLemmas.{still_same}
use Rattle.kept_log.specs.Kept.{OverStore, StandsStill}
use Rattle.store_log.specs.Held.{StandsFor}
use Rattle.store_log.specs.Opens.{IsLater, IsOpenFault}
use Rattle.store_log.specs.declared.standings.Standing.TheVariants.{Log}
use Rattle.kept_log.proofs.logs.KeptLog.read.Goals as goal

pub take_stopped-promised-requires-clause-stopped : goal.take_stopped-promised-requires-clause-stopped
take_stopped-promised-requires-clause-stopped g c = ap (λ (x : OverStore). x.is_open) c.self.view_is ∙ c.requires.stopped

pub returns-clause-same : goal.returns-clause-same
returns-clause-same g c = still_same c.take_stopped-promised.result.store c.read_off-told.result.1 c.args.self.now _ _ _ (sym c.self.view_is ∙ c.take_stopped-promised.ensures) c.read_off-told.ensures.node c.read_off-told.ensures.cluster

pub returns-clause-stood : goal.returns-clause-stood
returns-clause-stood g c = subst (λ (x : OverStore). IfOk c.read_off-told.result.0 (λ r. StandsFor x.node x.cluster x.synced (Log r.promised r.accepted r.entries))) (sym (sym c.self.view_is ∙ c.take_stopped-promised.ensures)) c.read_off-told.ensures.stood

pub returns-clause-still : goal.returns-clause-still
returns-clause-still g c = subst (λ (x : OverStore). StandsStill x.node x.cluster x.synced c.read_off-told.result.1.synced) (sym (sym c.self.view_is ∙ c.take_stopped-promised.ensures)) c.read_off-told.ensures.still

pub returns-clause-calm : goal.returns-clause-calm
returns-clause-calm g c = subst (λ (x : OverStore). OnOk c.read_off-told.result.0 (c.read_off-told.result.1.faults ≡ x.faults)) (sym (sym c.self.view_is ∙ c.take_stopped-promised.ensures)) c.read_off-told.ensures.calm

pub returns-clause-why : goal.returns-clause-why
returns-clause-why g c = subst (λ (x : OverStore). IfErr c.read_off-told.result.0 (λ w. IsOpenFault w x.node x.cluster x.synced x.faults c.read_off-told.result.1.faults)) (sym (sym c.self.view_is ∙ c.take_stopped-promised.ensures)) c.read_off-told.ensures.why

pub returns-clause-later : goal.returns-clause-later
returns-clause-later g c = subst (λ (x : OverStore). IfErr c.read_off-told.result.0 (λ w. IsLater w x.faults c.read_off-told.result.1.faults)) (sym (sym c.self.view_is ∙ c.take_stopped-promised.ensures)) c.read_off-told.ensures.later
