use Rattle.std.proofs.Common.{◌<◌, ◌^◌, sym, subst}
use Rattle.node_log.specs.Logged.{Logged}
use Rattle.node_log.proofs.SpelledLemmas.{accepted_below}
use Rattle.node_log.proofs.StepLemmas.{same_kept, below_each}
use Rattle.node_log.proofs.node_logs.NodeLog.accepted.Goals as goal

pub returns-clause-below : goal.returns-clause-below
returns-clause-below g c running =
    let now = c.args.self.now in
    subst (λ (l : Logged). l.accepted < 2 ^ 62) (sym c.self.view_is)
    (below_each now.accepted (2 ^ 62) (same_kept c.self.view_is c.self.invariant running).holds
    (accepted_below now.node now.cluster now.store.synced now.promised now.accepted now.entries))
