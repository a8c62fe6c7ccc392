-- A cluster in an election: node c stands in generation g with a log of length l that it accepted in generation a, and each node
-- that is up gave it its vote, or will.
use Rattle.std.specs.Prelude.{ℕ, ◌≡◌, ◌*◌, ◌<◌, ◌≤◌, true, false, List, length}
use mathlib.Core.Logic.{◌⊎◌}
use Rattle.core_lists.specs.Lists.{Each, Has}
use Rattle.core_lists.specs.Majorities.{count}
use Rattle.cluster_consensus.specs.Enabled.{Below}
use Rattle.election_core.specs.Counts.{has_bit}
use Rattle.election_core.specs.declared.messages.Message.{Message}
use Rattle.election_core.specs.declared.messages.Message.TheVariants.{Vote, Granted}
use Rattle.election_core.specs.declared.votes.NodeVote.{NodeVote}
use Rattle.quiet_cluster.specs.Led.{AreNamed}
use Rattle.quiet_cluster.specs.Packets.{Packet}

-- before it: c is the best of those that are up. No pair of an accepted generation and a length is above its own, and the
-- generation in which it will stand is above all their promises
pub record Best (n : ℕ) (at : ℕ → NodeVote) (c g : ℕ) : Type 0 where
  pub few : n ≤ 7
  pub up : (at c).up ≡ true
  pub nodes : (at c).nodes ≡ n
  pub size : length (at c).acked ≡ 7
  pub within : (at c).durable ≤ (at c).length
  pub named : AreNamed n at
  pub above : (k : ℕ) → (at k).up ≡ true → (at k).promised < g
  pub covered : (k : ℕ) → (at k).up ≡ true → (at k).accepted ≤ (at k).promised
  pub best : (k : ℕ) → (at k).up ≡ true → Below (at k).accepted (at k).length (at c).accepted (at c).length

-- a majority of n nodes is up
abbrev pub IsMajorityUp : ℕ → (ℕ → NodeVote) → Type 0
IsMajorityUp n at = n < 2 * count n (λ k. (at k).up)

-- a candidate's own numbers, while it lacks a majority
pub record Stands (n c g l : ℕ) (v : NodeVote) : Type 0 where
  pub node : v.node ≡ c
  pub nodes : v.nodes ≡ n
  pub up : v.up ≡ true
  pub promised : v.promised ≡ g
  pub accepted : v.accepted < g
  pub long : v.length ≡ l
  pub size : length v.acked ≡ 7
  pub within : v.durable ≤ l
  pub follows : v.leading ≡ false
  pub short : n < 2 * count n (λ k. has_bit v.granted k) → ⊥

-- node k is still to be asked
pub record Asked (q : List Packet) (c g a l k : ℕ) (v : NodeVote) : Type 0 where
  pub promised : v.promised < g
  pub accepted : v.accepted < g
  pub below : Below v.accepted v.length a l
  pub under_way : Has (λ p. (p.to ≡ k) × (p.message ≡ Vote c g a l)) q

-- it gave its vote, which is counted, or will be
pub record Bound (granted : ℕ) (q : List Packet) (c g k : ℕ) (v : NodeVote) : Type 0 where
  pub promised : v.promised ≡ g
  pub accepted : v.accepted < g
  pub follows : v.leading ≡ false
  pub counted : (has_bit granted k ≡ true) ⊎ Has (λ p. (p.to ≡ c) × (p.message ≡ Granted k g c)) q

pub data Vow (granted : ℕ) (q : List Packet) (c g a l k : ℕ) (v : NodeVote) : Type 0 where
  asked : Asked q c g a l k v → Vow granted q c g a l k v
  bound : Bound granted q c g k v → Vow granted q c g a l k v

-- what may be under way to a node
abbrev pub Polls : Message → ℕ → ℕ → ℕ → ℕ → ℕ → Type 0
Polls (Vote f h x y) to c g a l = (to ≡ c → ⊥) × (f ≡ c) × (h ≡ g)
Polls (Granted f h t) to c g a l = (to ≡ c) × (f ≤ 7)
Polls _ to c g a l = ⊥

-- c stands in g with its pair (a, l), and whoever is up gave its vote, or will
pub record Polled (n : ℕ) (at : ℕ → NodeVote) (q : List Packet) (c g a l : ℕ) : Type 0 where
  pub few : n ≤ 7
  pub stands : Stands n c g l (at c)
  pub named : AreNamed n at
  pub vows : (k : ℕ) → (at k).up ≡ true → Vow (at c).granted q c g a l k (at k)
  pub polls : Each (λ p. Polls p.message p.to c g a l) q
