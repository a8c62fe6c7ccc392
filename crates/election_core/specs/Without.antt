-- A cluster without what a message tells, and what a node counted of all that is told.
use Rattle.std.specs.Prelude.{ℕ, ◌≡◌, ◌<◌, ◌≤◌, Bool, true, false, length}
use mathlib.Core.Logic.{◌⊎◌}
use Rattle.core_lists.specs.Lists.{In, Each}
use Rattle.cluster_consensus.specs.Facts.{Claim, World}
use Rattle.cluster_consensus.specs.Enabled.{IsGranted}
use Rattle.cluster_consensus.specs.Events.{NodeEvent}
use Rattle.cluster_consensus.specs.Events.NodeEvent.{Boot, Back, BackLead, BackTake, BackGrow, BackAppend}
use Rattle.election_core.specs.Counts.{has_bit, reaches}
use Rattle.election_core.specs.Told.{IsAcked}
use Rattle.election_core.specs.declared.votes.NodeVote.{NodeVote}
use Rattle.election_core.specs.declared.messages.Message.{Message}
use Rattle.election_core.specs.declared.messages.Message.TheVariants.{Vote, Granted, Adopt, Ship, Ack, Durable, Ping}

-- the message ships this log of node k
abbrev pub Ships : {E : Type 0} → Message → ℕ → Claim E → Type 0
Ships m k s = (m ≡ Adopt k s.gen (length s.log)) ⊎ (m ≡ Ship k s.gen (length s.log))

-- u has each fact of w, but for those whose image the message is
pub record LacksOnly {E : Type 0} (m : Message) (w u : World E) : Type 0 where
  pub votes : (k : ℕ) → Each (λ x. In x (u.nodes k).votes ⊎ (m ≡ Vote k x.gen x.accepted (length x.log))) (w.nodes k).votes
  pub grants : (k : ℕ) → Each (λ x. In x (u.nodes k).grants ⊎ (m ≡ Granted k x.gen x.to)) (w.nodes k).grants
  pub ships : (k : ℕ) → Each (λ s. In s (u.nodes k).ships ⊎ Ships m k s) (w.nodes k).ships
  pub acks : (k : ℕ) → Each (λ c. In c (u.nodes k).acks ⊎ (m ≡ Ack k c.gen (length c.log))) (w.nodes k).acks
  pub durables : (k : ℕ) → Each (λ c. In c (u.nodes k).durables ⊎ (m ≡ Durable k c.gen (length c.log))) (w.nodes k).durables
  pub pings : (k : ℕ) → Each (λ x. In x (u.nodes k).pings ⊎ (m ≡ Ping k x.gen x.ask x.durable)) (w.nodes k).pings
  pub admits : u.admits ≡ w.admits
  pub asks : u.asks ≡ w.asks

-- each vote and, of a leader, each length that is told to the node is counted
pub record CountsAll {E : Type 0} (w : World E) (v : NodeVote) : Type 0 where
  pub granted : (k : ℕ) → 0 < k → k ≤ v.nodes → IsGranted w v.promised v.node k → has_bit v.granted k ≡ true
  pub acked : v.leading ≡ true → (l k : ℕ) → 1 ≤ l → 0 < k → k ≤ v.nodes → IsAcked w v.accepted l k → reaches v.acked l k ≡ true

-- a node comes up: with what its store holds, whatever messages come
abbrev pub comes_up : {E : Type 0} → NodeEvent E → Bool
comes_up (Boot p a l) = true
comes_up (Back p) = true
comes_up BackLead = true
comes_up (BackTake g l) = true
comes_up (BackGrow l) = true
comes_up (BackAppend e) = true
comes_up _ = false
