-- A quiet cluster: nothing is under way, one node leads, and each node that is up has its log, knows it durable, and promised
-- nothing above its generation.
use Rattle.std.specs.Prelude.{ℕ, ◌≡◌, ◌≤◌, true}
use Rattle.election_core.specs.declared.votes.NodeVote.{NodeVote}
use Rattle.quiet_cluster.specs.Led.{AreNamed, Holds, Leads, NobodyAbove}

pub record Quiet (n : ℕ) (at : ℕ → NodeVote) (m g l : ℕ) : Type 0 where
  pub leads : Leads n m g l (at m)
  pub knows : (at m).durable ≡ l
  pub others : (k : ℕ) → (k ≡ m → ⊥) → (at k).up ≡ true → Holds g l (at k) × (l ≤ (at k).durable)
  pub named : AreNamed n at
  pub below : NobodyAbove at g
