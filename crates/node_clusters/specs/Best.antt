-- The best of the first nodes that are up, by the pair of its acceptance and its length.
use Rattle.std.specs.Prelude.{ℕ, ◌≡◌, ◌<◌, ◌≤◌, Bool, true, false, List}
use Rattle.cluster_consensus.specs.Enabled.{Below}
use Rattle.election_core.specs.declared.votes.NodeVote.{NodeVote}
use Rattle.node_clusters.specs.Places.{votes}
use Rattle.node_state.specs.Stores.{Stored}

-- the pair of one is not above that of another
abbrev pub IsBelow : NodeVote → NodeVote → Type 0
IsBelow v u = Below v.accepted v.length u.accepted u.length

abbrev pub IsBetter : NodeVote → NodeVote → Bool → Type 0
IsBetter v u true = IsBelow u v
IsBetter v u false = IsBelow v u

-- of the first n nodes c is the best that is up; 0 where none is
pub record IsBestOf (vs : List Stored) (n c : ℕ) : Type 0 where
  pub within : c ≤ n
  pub up : 0 < c → (votes vs c).up ≡ true
  pub best : (k : ℕ) → k ≤ n → (votes vs k).up ≡ true → (0 < c) × IsBelow (votes vs k) (votes vs c)
