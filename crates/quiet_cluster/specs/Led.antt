-- A cluster that is led: node m leads in generation g with a log of length l, and of each other node that is up and promised
-- nothing above g it is known how far it is with that log, by what is under way.
--
-- Of three nodes, where node 1 appended the second entry:
--
--   under way                            node 2                              node 3
--   Ship to 2, Ship to 3, Ack to 1       is coming to it                     is coming to it
--   Ship to 3, Ack to 1, Ack to 1        has it, and acknowledges            is coming to it
--   Durable to 2, Durable to 3, Ack ..   has it, counted, and will know      has it, and acknowledges
--
-- Nothing is said of who is down, nor of who promised above g.
use Rattle.std.specs.Prelude.{ℕ, ◌≡◌, ◌+◌, ◌<◌, ◌≤◌, true, false, List, length, slice_index}
use mathlib.Core.Logic.{◌⊎◌}
use Rattle.core_lists.specs.Lists.{Each, Has}
use Rattle.election_core.specs.Counts.{reaches, IsReached}
use Rattle.election_core.specs.declared.messages.Message.{Message}
use Rattle.election_core.specs.declared.messages.Message.TheVariants.{Vote, Granted, Adopt, Ship, Ack, Durable}
use Rattle.election_core.specs.declared.votes.NodeVote.{NodeVote}
use Rattle.quiet_cluster.specs.Packets.{Packet}

-- a node may take a shipped log of length l to its end with the entries that come with it: with all of them, or with those that
-- it lacks
abbrev pub MayTakeAll : NodeVote → ℕ → ℕ → ℕ → Type 0
MayTakeAll v g l e = (v.promised ≤ g) × (((v.accepted < g) × (e ≡ l)) ⊎ ((v.accepted ≡ g) × (v.length ≤ l) × (l ≤ v.length + e)))

-- the message ships a log of length l of node m in generation g
abbrev pub IsLog : Message → ℕ → ℕ → ℕ → Type 0
IsLog (Adopt f h x) m g l = (f ≡ m) × (h ≡ g) × (x ≡ l)
IsLog (Ship f h x) m g l = (f ≡ m) × (h ≡ g) × (x ≡ l)
IsLog _ m g l = ⊥

-- it tells at least l durable in g
abbrev pub IsKnown : Message → ℕ → ℕ → Type 0
IsKnown (Durable f h x) g l = (h ≡ g) × (l ≤ x)
IsKnown _ g l = ⊥

-- what may be under way to a node where m leads g with a log of length l; votes are those of the election before
abbrev pub Fits : Message → ℕ → ℕ → ℕ → ℕ → Type 0
Fits (Adopt f h x) to m g l = (to ≡ m → ⊥) × (f ≡ m) × (h ≡ g) × (x ≡ l)
Fits (Ship f h x) to m g l = (to ≡ m → ⊥) × (f ≡ m) × (h ≡ g) × (x ≡ l)
Fits (Ack f h x) to m g l = (to ≡ m) × (0 < f) × (f ≤ 7) × (h ≡ g) × (x ≡ l)
Fits (Durable f h x) to m g l = to ≡ m → ⊥
Fits (Vote f h a x) to m g l = (f ≡ m) × (h ≤ g)
Fits (Granted f h t) to m g l = to ≡ m
Fits _ to m g l = Unit {0}

-- node k's log is still to come
pub record Coming (q : List Packet) (m g l k : ℕ) (v : NodeVote) : Type 0 where
  pub follows : v.accepted ≡ g → v.leading ≡ false
  pub under_way : Has (λ p. (p.to ≡ k) × IsLog p.message m g l × MayTakeAll v g l p.entries) q

-- a node has the leader's log
pub record Holds (g l : ℕ) (v : NodeVote) : Type 0 where
  pub accepted : v.accepted ≡ g
  pub follows : v.leading ≡ false
  pub long : v.length ≡ l

-- it has it, and its acknowledgement is still to come
pub record Acking (q : List Packet) (m g l k : ℕ) (v : NodeVote) : Type 0 where
  pub holds : Holds g l v
  pub under_way : Has (λ p. (p.to ≡ m) × (p.message ≡ Ack k g l)) q

-- it has it, its length is counted; and where a majority's is, it knows so, or will
pub record Noted (n : ℕ) (acked : List ℕ) (q : List Packet) (g l k : ℕ) (v : NodeVote) : Type 0 where
  pub holds : Holds g l v
  pub counted : reaches acked l k ≡ true
  pub knows : IsReached acked n l → (l ≤ v.durable) ⊎ Has (λ p. (p.to ≡ k) × IsKnown p.message g l) q

pub data Claim (n : ℕ) (acked : List ℕ) (q : List Packet) (m g l k : ℕ) (v : NodeVote) : Type 0 where
  coming : Coming q m g l k v → Claim n acked q m g l k v
  acking : Acking q m g l k v → Claim n acked q m g l k v
  noted : Noted n acked q g l k v → Claim n acked q m g l k v

-- the leader's own numbers
pub record Leads (n m g l : ℕ) (v : NodeVote) : Type 0 where
  pub node : v.node ≡ m
  pub nodes : v.nodes ≡ n
  pub up : v.up ≡ true
  pub leading : v.leading ≡ true
  pub promised : v.promised ≡ g
  pub accepted : v.accepted ≡ g
  pub long : v.length ≡ l
  pub size : length v.acked ≡ 7
  pub within : v.durable ≤ l
  pub acked : (k : ℕ) → slice_index v.acked k ≤ l
  pub known : IsReached v.acked n l → l ≤ v.durable

-- each node that is up has its own number, one of n
abbrev pub AreNamed : ℕ → (ℕ → NodeVote) → Type 0
AreNamed n at = (k : ℕ) → (at k).up ≡ true → (0 < k) × (k ≤ n) × ((at k).node ≡ k)

-- m leads g with a log of length l, and whoever is up and promised no more has it, or will
pub record Led (n : ℕ) (at : ℕ → NodeVote) (q : List Packet) (m g l : ℕ) : Type 0 where
  pub few : n ≤ 7
  pub leads : Leads n m g l (at m)
  pub own : (reaches (at m).acked l m ≡ true) ⊎ Has (λ p. (p.to ≡ m) × (p.message ≡ Ack m g l)) q
  pub named : AreNamed n at
  pub claims : (k : ℕ) → (k ≡ m → ⊥) → (at k).up ≡ true → (at k).promised ≤ g → Claim n (at m).acked q m g l k (at k)
  pub fits : Each (λ p. Fits p.message p.to m g l) q

-- nobody that is up promised above g
abbrev pub NobodyAbove : (ℕ → NodeVote) → ℕ → Type 0
NobodyAbove at g = (k : ℕ) → (at k).up ≡ true → (at k).promised ≤ g

-- a cluster that is led, where nobody that is up promised above its leader
pub record LedAlone (n : ℕ) (at : ℕ → NodeVote) (q : List Packet) (m g l : ℕ) : Type 0 where
  pub led : Led n at q m g l
  pub below : NobodyAbove at g
