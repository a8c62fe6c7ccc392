-- A log of length l that is taken by calls of `on_message`, one for each entry that the node lacks, or one for all.
use Rattle.std.specs.Prelude.{ℕ, ◌≡◌}
use Rattle.election_core.specs.Allowed.{AllowsExactly}
use Rattle.election_core.specs.Counted.{acted, counted}
use Rattle.election_core.specs.declared.messages.Action.TheVariants as action
use Rattle.election_core.specs.declared.messages.Message.{Message}
use Rattle.election_core.specs.declared.votes.NodeVote.{NodeVote}

pub data TakesAll (m : Message) (g l : ℕ) : NodeVote → NodeVote → Type 0 where
  last : {v u : NodeVote} → AllowsExactly v m (action.Take g l) → u ≡ acted (counted v m) (action.Take g l) → TakesAll m g l v u
  more : {v w u : NodeVote} (x : ℕ) → AllowsExactly v m (action.Take g x) → w ≡ acted (counted v m) (action.Take g x) → TakesAll m g l w u → TakesAll m g l v u
