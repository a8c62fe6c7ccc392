use Rattle.std.proofs.Math.Logic.{∥∥₁_map}
use Rattle.node_log.proofs.SpelledLemmas.{entries_spelled}
use Rattle.node_log.proofs.StepLemmas.{same_kept, step_stands}
use Rattle.node_log.proofs.node_logs.NodeLog.log.Goals as goal

pub returns-clause-stands : goal.returns-clause-stands
returns-clause-stands g c running = step_stands c.args.self.now (same_kept c.self.view_is c.self.invariant running)

pub returns-clause-spelled : goal.returns-clause-spelled
returns-clause-spelled g c running =
    let now = c.args.self.now in
    ∥∥₁_map (same_kept c.self.view_is c.self.invariant running).holds
    (entries_spelled now.node now.cluster now.store.synced now.promised now.accepted now.entries)
