-- What a node may do about a message, by its numbers alone.
use Rattle.std.specs.Prelude.{ℕ, ◌≡◌, ◌+◌, ◌*◌, ◌<◌, ◌≤◌, true, false}
use mathlib.Core.Logic.{◌⊎◌}
use Rattle.core_lists.specs.Majorities.{count}
use Rattle.cluster_consensus.specs.Enabled.{Below}
use Rattle.election_core.specs.Counts.{has_bit, IsReached}
use Rattle.election_core.specs.Counted.{counted}
use Rattle.election_core.specs.declared.votes.NodeVote.{NodeVote}
use Rattle.election_core.specs.declared.messages.Message.{Message}
use Rattle.election_core.specs.declared.messages.Message.TheVariants.{Vote, Granted, Adopt, Ship, Ack, Durable, Ping, Pong}
use Rattle.election_core.specs.declared.messages.Action.{Action}
use Rattle.election_core.specs.declared.messages.Action.TheVariants.{Nothing, Promise, Lead, Take, Know, Answer}

-- stands in a generation above its promise
abbrev pub MayStand : NodeVote → ℕ → Type 0
MayStand v g = (v.up ≡ true) × (v.promised < g)

-- grants a generation above its promise, to a candidate whose accepted generation and length aren't less than its own
abbrev pub MayGrant : NodeVote → ℕ → ℕ → ℕ → Type 0
MayGrant v g a l = (v.up ≡ true) × (v.promised < g) × Below v.accepted v.length a l

-- leads what it promised, above what it accepted, where a majority granted it
abbrev pub MayLead : NodeVote → ℕ → ℕ → Type 0
MayLead v g to = (v.up ≡ true) × (to ≡ v.node) × (g ≡ v.promised) × (v.accepted < v.promised) × (v.nodes < 2 * count v.nodes (λ k. has_bit v.granted k))

-- of a message of length l, what length it takes: all of it in a new generation; in the one that it accepted one entry more,
-- or the whole length again
abbrev pub Takes : NodeVote → ℕ → ℕ → ℕ → Type 0
Takes v g l m = ((v.accepted < g) × (m ≡ l)) ⊎ ((v.accepted ≡ g) × ((v.length < l) × (m ≡ v.length + 1))) ⊎ ((v.accepted ≡ g) × ((v.length ≡ l) × (m ≡ l)))

-- takes in a generation that isn't below its promise
abbrev pub MayTake : NodeVote → ℕ → ℕ → ℕ → Type 0
MayTake v g l m = (v.up ≡ true) × (v.promised ≤ g) × Takes v g l m

-- a leader knows what a majority acknowledged in its generation, and no less than before
abbrev pub MayLearn : NodeVote → ℕ → ℕ → Type 0
MayLearn v g d = (v.up ≡ true) × (v.leading ≡ true) × (g ≡ v.accepted) × (1 ≤ d) × (v.durable ≤ d) × IsReached v.acked v.nodes d

-- who doesn't lead knows more of its log, told durable in a generation that it accepted or passed
abbrev pub MayHear : NodeVote → ℕ → ℕ → ℕ → Type 0
MayHear v g l d = (v.up ≡ true) × (v.leading ≡ false) × (v.durable < d) × (d ≤ v.length) × (g ≤ v.accepted) × (d ≤ l)

-- confirms a generation that isn't below its promise
abbrev pub MayConfirm : NodeVote → ℕ → Type 0
MayConfirm v g = (v.up ≡ true) × (v.promised ≤ g)

-- the actions that a message allows
abbrev pub Allows : NodeVote → Message → Action → Type 0
Allows v (Vote f g a l) (Promise h to) = MayGrant v g a l × (h ≡ g) × (to ≡ f)
Allows v (Granted f g to) (Lead h) = MayLead (counted v (Granted f g to)) g to × (h ≡ g)
Allows v (Adopt f g l) (Take h m) = MayTake v g l m × (h ≡ g)
Allows v (Ship f g l) (Take h m) = MayTake v g l m × (h ≡ g)
Allows v (Ack f g l) (Know d) = MayLearn (counted v (Ack f g l)) g d
Allows v (Durable f g l) (Know d) = MayHear v g l d
Allows v (Ping f g t d) (Answer m to) = MayConfirm v g × (m ≡ Pong v.node g t) × (to ≡ f)
Allows v _ _ = ⊥

-- the action is allowed; and where it is Nothing, no other one is
abbrev pub AllowsExactly : NodeVote → Message → Action → Type 0
AllowsExactly v m Nothing = (a : Action) → Allows v m a → ⊥
AllowsExactly v m a = Allows v m a

-- of what it may know it knows the greatest
abbrev pub IsMost : NodeVote → Message → Action → Type 0
IsMost v m (Know d) = (e : ℕ) → Allows v m (Know e) → e ≤ d
IsMost v m _ = Unit {0}
