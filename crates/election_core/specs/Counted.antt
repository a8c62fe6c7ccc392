-- What a message and an action change in a node's numbers.
use Rattle.std.specs.Prelude.{ℕ, ◌==◌, ◌&&◌, ◌-◌, Bool, true, false, cond, List, replicate, slice_index, slice_set, max}
use Rattle.election_core.specs.Counts.{with_bit}
use Rattle.election_core.specs.declared.votes.NodeVote.{NodeVote}
use Rattle.election_core.specs.declared.messages.Message.{Message}
use Rattle.election_core.specs.declared.messages.Message.TheVariants.{Vote, Granted, Adopt, Ship, Ack, Durable, Ping, Pong}
use Rattle.election_core.specs.declared.messages.Action.{Action}
use Rattle.election_core.specs.declared.messages.Action.TheVariants.{Nothing, Promise, Lead, Take, Know, Answer}

-- a vote counts for who stands and promised that generation
abbrev pub counts_vote : NodeVote → ℕ → ℕ → Bool
counts_vote v g to = to == v.node && g == v.promised

-- a length counts in the generation that the node accepted
abbrev pub counts_length : NodeVote → ℕ → Bool
counts_length v g = v.leading && g == v.accepted

-- a list of acknowledged lengths with that of node k, from 1, where it is greater
abbrev pub with_length : List ℕ → ℕ → ℕ → List ℕ
with_length acked k l = slice_set acked (k - 1) (max (slice_index acked (k - 1)) l)

-- the numbers with this message's vote or length
abbrev pub counted : NodeVote → Message → NodeVote
counted v (Granted f g to) = cond (counts_vote v g to) (record v { granted = with_bit v.granted f }) v
counted v (Ack f g l) = cond (counts_length v g) (record v { acked = with_length v.acked f l }) v
counted v (Vote f g a l) = v
counted v (Adopt f g l) = v
counted v (Ship f g l) = v
counted v (Durable f g l) = v
counted v (Ping f g t d) = v
counted v (Pong f g t) = v

-- the numbers after an action
abbrev pub acted : NodeVote → Action → NodeVote
acted v Nothing = v
acted v (Promise g to) = record v { promised = g; granted = 0; leading = false }
acted v (Lead g) = record v { accepted = g; adopted = v.length; acked = replicate 7 0; leading = true }
acted v (Take g l) = record v { promised = g; accepted = g; length = l; granted = 0; leading = v.leading && v.accepted == g }
acted v (Know d) = record v { durable = d }
acted v (Answer m to) = v
