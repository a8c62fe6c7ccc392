-- How a node's numbers, messages and actions stand for the parts, told facts and events of a legal history.
use Rattle.std.specs.Prelude.{ℕ, ◌≡◌, ◌≤◌, true, List, length}
use mathlib.Core.Logic.{◌⊎◌}
use Rattle.core_lists.specs.Lists.{Has}
use Rattle.cluster_consensus.specs.Facts.{Own, World}
use Rattle.cluster_consensus.specs.Enabled.{IsGranted}
use Rattle.cluster_consensus.specs.Events.{NodeEvent}
use Rattle.cluster_consensus.specs.Events.NodeEvent.{Grants, LearnLead, LearnFollow, Confirm}
use Rattle.election_core.specs.Counts.{has_bit, reaches}
use Rattle.election_core.specs.declared.votes.NodeVote.{NodeVote}
use Rattle.election_core.specs.declared.messages.Message.{Message}
use Rattle.election_core.specs.declared.messages.Message.TheVariants.{Vote, Granted, Adopt, Ship, Ack, Durable, Ping, Pong}
use Rattle.election_core.specs.declared.messages.Action.{Action}
use Rattle.election_core.specs.declared.messages.Action.TheVariants.{Nothing, Promise, Lead, Take, Know, Answer}

-- the numbers are those of the part, with the length for the log
pub record IsPart {E : Type 0} (v : NodeVote) (o : Own E) : Type 0 where
  pub promised : v.promised ≡ o.promised
  pub accepted : v.accepted ≡ o.accepted
  pub length : v.length ≡ length o.log
  pub adopted : v.adopted ≡ o.adopted
  pub durable : v.durable ≡ o.durable
  pub leading : v.leading ≡ o.leading
  pub up : v.up ≡ o.up

-- the message is the image of a fact that its sender told
abbrev pub IsMessageTold : {E : Type 0} → World E → Message → Type 0
IsMessageTold w (Vote f g a l) = Has (λ x. (x.gen ≡ g) × (x.accepted ≡ a) × (length x.log ≡ l)) (w.nodes f).votes
IsMessageTold w (Granted f g to) = Has (λ x. (x.gen ≡ g) × (x.to ≡ to)) (w.nodes f).grants
IsMessageTold w (Adopt f g l) = Has (λ x. (x.gen ≡ g) × (length x.log ≡ l)) (w.nodes f).ships
IsMessageTold w (Ship f g l) = Has (λ x. (x.gen ≡ g) × (length x.log ≡ l)) (w.nodes f).ships
IsMessageTold w (Ack f g l) = Has (λ x. (x.gen ≡ g) × (length x.log ≡ l)) (w.nodes f).acks
IsMessageTold w (Durable f g l) = Has (λ x. (x.gen ≡ g) × (length x.log ≡ l)) (w.nodes f).durables
IsMessageTold w (Ping f g t d) = Has (λ x. (x.ask ≡ t) × (x.gen ≡ g) × (x.durable ≡ d)) (w.nodes f).pings
IsMessageTold w (Pong f g t) = Has (λ x. (x.ask ≡ t) × (x.gen ≡ g)) (w.nodes f).pongs

-- an acknowledgement of at least this length in this generation is told
abbrev pub IsAcked : {E : Type 0} → World E → ℕ → ℕ → ℕ → Type 0
IsAcked w g l k = Has (λ c. (c.gen ≡ g) × (l ≤ length c.log)) (w.nodes k).acks

-- each vote and, of a leader, each length that is counted is told
pub record IsCounted {E : Type 0} (w : World E) (v : NodeVote) : Type 0 where
  pub size : length v.acked ≡ 7
  pub granted : (k : ℕ) → has_bit v.granted k ≡ true → IsGranted w v.promised v.node k
  pub acked : v.leading ≡ true → (l k : ℕ) → 1 ≤ l → reaches v.acked l k ≡ true → IsAcked w v.accepted l k

-- the event that an action stands for, at a node with these numbers
abbrev pub IsEventOf : {E : Type 0} → NodeVote → Action → NodeEvent E → Type 0
IsEventOf v Nothing e = ⊥
IsEventOf v (Promise g to) e = e ≡ Grants g to
IsEventOf v (Lead g) e = (g ≡ v.promised) × (e ≡ NodeEvent.Lead)
IsEventOf {E} v (Take g l) e =
    ((v.accepted ≡ g) × (x : List E) × (e ≡ NodeEvent.Grow x) × (length x ≡ l)) ⊎ ((x : List E) × (e ≡ NodeEvent.Take g x) × (length x ≡ l))
IsEventOf v (Know d) e = (e ≡ LearnLead d) ⊎ (e ≡ LearnFollow d)
IsEventOf v (Answer (Pong f g t) to) e = e ≡ Confirm t g
IsEventOf v (Answer m to) e = ⊥
