use Rattle.std.proofs.Common.{subst}
use Rattle.cdb_outside.specs.Stores.{JoinsFront}
use Rattle.node_log.specs.Logged.{Logged}
use Rattle.node_log.proofs.StepLemmas.{same_kept, stopped_stands}
use Rattle.node_log.proofs.node_logs.NodeLog.into_parts.Goals as goal

pub returns-clause-stands : goal.returns-clause-stands
returns-clause-stands g c =
    stopped_stands c.args.self (g.D.LogStore.synced c.give_back-store.result) (same_kept c.self.view_is c.self.invariant)
    (subst (λ (l : Logged). JoinsFront l.store.synced l.store.pending (g.D.LogStore.synced c.give_back-store.result)) c.self.view_is c.give_back-store.ensures.joined)
