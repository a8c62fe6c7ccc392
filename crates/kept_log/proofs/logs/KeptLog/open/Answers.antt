use Rattle.std.proofs.Common.{sym, ap, ◌∙◌}
use Rattle.kept_log.proofs.KeptLemmas.{open_found, still_holds, still_same, still_why}
use Rattle.kept_log.specs.Kept.{OverStore}
use Rattle.kept_log.proofs.logs.KeptLog.open.Goals as goal

pub take_stopped-promised-requires-clause-stopped : goal.take_stopped-promised-requires-clause-stopped
take_stopped-promised-requires-clause-stopped g c = ap (λ (x : OverStore). x.is_open) c.self.view_is ∙ c.requires.stopped

pub returns-in-Ok-clause-found : goal.returns-in-Ok-clause-found
returns-in-Ok-clause-found g c = open_found c.take_stopped-promised.result.store c.in-Ok.opened c.args.self.now _ _ _ (sym c.self.view_is ∙ c.take_stopped-promised.ensures) c.in-Ok.ensures.found

pub returns-in-Ok-clause-node : goal.returns-in-Ok-clause-node
returns-in-Ok-clause-node g c = c.in-Ok.ensures.node ∙ sym (ap (λ (x : OverStore). x.node) (sym c.self.view_is ∙ c.take_stopped-promised.ensures))

pub returns-in-Ok-clause-cluster : goal.returns-in-Ok-clause-cluster
returns-in-Ok-clause-cluster g c = c.in-Ok.ensures.cluster ∙ sym (ap (λ (x : OverStore). x.cluster) (sym c.self.view_is ∙ c.take_stopped-promised.ensures))

pub returns-in-Ok-clause-calm : goal.returns-in-Ok-clause-calm
returns-in-Ok-clause-calm g c = c.in-Ok.ensures.calm ∙ sym (ap (λ (x : OverStore). x.faults) (sym c.self.view_is ∙ c.take_stopped-promised.ensures))

pub returns-in-Err-clause-node : goal.returns-in-Err-clause-node
returns-in-Err-clause-node g c = c.in-Err.ensures.same_node ∙ sym (ap (λ (x : OverStore). x.node) (sym c.self.view_is ∙ c.take_stopped-promised.ensures))

pub returns-in-Err-clause-cluster : goal.returns-in-Err-clause-cluster
returns-in-Err-clause-cluster g c = c.in-Err.ensures.same_cluster ∙ sym (ap (λ (x : OverStore). x.cluster) (sym c.self.view_is ∙ c.take_stopped-promised.ensures))

pub returns-in-Err-clause-kept : goal.returns-in-Err-clause-kept
returns-in-Err-clause-kept g c = still_same c.take_stopped-promised.result.store c.in-Err.still.log c.args.self.now _ _ _ (sym c.self.view_is ∙ c.take_stopped-promised.ensures) c.in-Err.ensures.same_node c.in-Err.ensures.same_cluster

pub returns-in-Err-clause-still : goal.returns-in-Err-clause-still
returns-in-Err-clause-still g c =
    still_holds c.take_stopped-promised.result.store c.in-Err.still.log c.args.self.now _ _ _ (sym c.self.view_is ∙ c.take_stopped-promised.ensures) c.in-Err.ensures.same_node c.in-Err.ensures.same_cluster c.in-Err.ensures.still

pub returns-in-Err-clause-why : goal.returns-in-Err-clause-why
returns-in-Err-clause-why g c = still_why c.in-Err.still.why c.take_stopped-promised.result.store c.in-Err.still.log c.args.self.now _ _ _ (sym c.self.view_is ∙ c.take_stopped-promised.ensures) c.in-Err.ensures.why
