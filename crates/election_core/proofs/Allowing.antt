-- A told message, counted, and what it allows then.
use Rattle.std.proofs.Common.{ℕ, ◌≡◌, ◌<◌, ◌≤◌, sym, subst, ◌∙◌}
use Rattle.cluster_consensus.specs.Facts.{World}
use Rattle.cluster_consensus.specs.Events.{NodeEvent, change}
use Rattle.cluster_consensus.specs.Enabled.{Enabled}
use Rattle.election_core.specs.Counted.{acted, counted}
use Rattle.election_core.specs.Allowed.{Allows}
use Rattle.election_core.specs.Senders.{sender_of}
use Rattle.election_core.specs.Told.{IsPart, IsMessageTold, IsCounted, IsEventOf}
use Rattle.election_core.proofs.Enabling.{allowed_happens}
use Rattle.election_core.proofs.Keeping.{part_kept, same_nodes, counted_kept}
use Rattle.election_core.specs.declared.votes.NodeVote.{NodeVote}
use Rattle.election_core.specs.declared.messages.Message.{Message}
use Rattle.election_core.specs.declared.messages.Action.{Action}

pub allowed_enabled : {E : Type 0} (n : ℕ) (w : World E) (v : NodeVote) (m : Message) (a : Action) → v.nodes ≡ n → IsPart v (w.nodes v.node) → IsCounted w v → IsMessageTold w m → 0 < sender_of m → sender_of m ≤ 7 → Allows v m a
    → (e : NodeEvent E) × IsEventOf (counted v m) a e × Enabled n w v.node (w.nodes v.node) e × IsPart (acted (counted v m) a) (change v.node (w.nodes v.node) e)
allowed_enabled {E} n w v m a size p c x pos top may =
    let same = same_nodes v m in
    let q = subst (λ k. IsPart (counted v m) (w.nodes k)) (sym same.0) (part_kept v m (w.nodes v.node) p) in
    let h = allowed_happens n w v m a size p q (same.1 ∙ size) (counted_kept w v m pos top c x) x may in (
      h.event,
      h.named,
      subst (λ k. Enabled n w k (w.nodes k) h.event) same.0 h.enabled,
      subst (λ k. IsPart (acted (counted v m) a) (change k (w.nodes k) h.event)) same.0 h.part,
    )
