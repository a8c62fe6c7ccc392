-- What comes of an election, one part of it after the other: a node stands, its votes are delivered, and where it leads it sets its
-- log up.
use Rattle.std.specs.declared.alloc.Global.{Global}
use Rattle.std.specs.Prelude.{ℕ, ◌≡◌, ◌-◌, ◌<◌, ◌⊎◌, Bool, true, false, Option, None, Some, Vec, List, [], slice_set}
use Rattle.cluster_events.specs.Settings.{Setting}
use Rattle.cluster_steps.specs.declared.events.Event.{Event}
use Rattle.election_core.specs.Counted.{acted}
use Rattle.election_core.specs.declared.messages.Action.TheVariants as action
use Rattle.election_core.specs.declared.votes.NodeVote.{NodeVote}
use Rattle.node_commits.specs.Ledgers.{Book}
use Rattle.node_clusters.specs.Clusters.{HasMajority, IsAlone, up_count}
use Rattle.node_clusters.specs.Numbers.{numbers}
use Rattle.node_clusters.specs.Places.{node_at, votes}
use Rattle.node_clusters.specs.Reigns.{AllReign, IsMastersBook, IsUntold, KeepsBook, Reigns}
use Rattle.node_clusters.specs.Turns.{TakesTurn, TakeTurns}
use Rattle.node_state.specs.Packets.{SentPacket}
use Rattle.node_state.specs.Stores.{Stored}
use Rattle.quiet_cluster.specs.Packets.{appending_packets, standing_packets}
use Rattle.quiet_cluster.specs.Polled.{Polled}

-- c stands with its votes under way
pub record IsStanding (G : Setting) (vs : List Stored) (q : List SentPacket) (c : ℕ) : Type 0 where
  pub generation : ℕ
  pub accepted : ℕ
  pub length : ℕ
  pub polled : Polled G.nodes (votes vs) (numbers q) c generation accepted length

-- what came of standing: its votes are under way; or it is down, and one fewer is up
abbrev pub IsStood : Setting → List Stored → List Stored → List SentPacket → ℕ → Bool → Type 0
IsStood G vs us q c true = IsStanding G us q c
IsStood G vs us q c false = (q ≡ []) × (up_count us < up_count vs)

-- what came of an election or a setup: where a majority is up, it is known who leads, above all promises of who is up; or fewer
-- are up
abbrev pub IsDecided : Setting → List Stored → List Stored → Option ℕ → Bool → Type 0
IsDecided G vs us master true = HasMajority G us → IsAlone us master
IsDecided G vs us master false = up_count us < up_count vs

-- a node, where it is up and leads
abbrev pub IsIfLeading : NodeVote → ℕ → Option ℕ → Type 0
IsIfLeading v k result = ((v.up ≡ true) × (v.leading ≡ true) × (result ≡ Some k)) ⊎ ((v.up ≡ true → v.leading ≡ true → ⊥) × (result ≡ None))

-- what came of a setup: the same as before is known of who leads, where a majority is up; or fewer are up
abbrev pub IsKept : Setting → List Stored → Option ℕ → List Stored → Option ℕ → Bool → Type 0
IsKept G vs was us master true = HasMajority G us → IsAlone vs was → IsAlone us master
IsKept G vs was us master false = up_count us < up_count vs

-- what came of its first step: it is under way, and nobody else changed; or the leader is down
abbrev pub IsSetUp : List Stored → List Stored → List SentPacket → Option ℕ → ℕ → Bool → Type 0
IsSetUp vs us q master m true = (master ≡ Some m) × (IsAlone vs master → IsAlone us master)
IsSetUp vs us q master m false = (q ≡ []) × (up_count us < up_count vs)

-- a node stands in a generation, and sends that; or its store failed
abbrev pub IsStoodBy : ℕ → Option (Vec SentPacket Global) → Stored → Stored → Type 0
IsStoodBy g None old new = new.vote.up ≡ false
IsStoodBy g (Some ps) old new = (new.vote ≡ acted old.vote (action.Promise g old.vote.node)) × (numbers ps.items ≡ standing_packets new.vote g)

-- a leader appends its setup, and sends that; or its store failed
abbrev pub IsSetUpBy : Option (Vec SentPacket Global) → Stored → Stored → Type 0
IsSetUpBy None old new = new.vote.up ≡ false
IsSetUpBy (Some ps) old new = (new.vote ≡ record old.vote { length = 1 }) × (numbers ps.items ≡ appending_packets new.vote 1)

-- so by a call of it at its turn
pub record HasStood (g : ℕ) (o : Option (Vec SentPacket Global)) (last : Option (List (ℕ × Event))) (old new : Stored) (next : Option (List (ℕ × Event))) : Type 0 where
  pub stood : IsStoodBy g o old new
  pub reigns : new.vote.up ≡ true → Reigns old new
  pub turn : TakesTurn last old new next

pub record HasSetUp (o : Option (Vec SentPacket Global)) (last : Option (List (ℕ × Event))) (old new : Stored) (next : Option (List (ℕ × Event))) : Type 0 where
  pub set_up : IsSetUpBy o old new
  pub reigns : new.vote.up ≡ true → Reigns old new
  pub turn : TakesTurn last old new next

-- and the other nodes are as before
pub record HasStoodAt (g c : ℕ) (o : Option (Vec SentPacket Global)) (last : Option (List (ℕ × Event))) (vs us : List Stored) (next : Option (List (ℕ × Event))) : Type 0 where
  pub node : Stored
  pub put : us ≡ slice_set vs (c - 1) node
  pub by : HasStood g o last (node_at vs c) node next

pub record HasSetUpAt (m : ℕ) (o : Option (Vec SentPacket Global)) (last : Option (List (ℕ × Event))) (vs us : List Stored) (next : Option (List (ℕ × Event))) : Type 0 where
  pub node : Stored
  pub put : us ≡ slice_set vs (m - 1) node
  pub by : HasSetUp o last (node_at vs m) node next

-- a node stood, with nothing under way before: nobody is known to lead then; or its store failed, and whoever else led leads on
pub record HasCandidate (G : Setting) (c : ℕ) (b : Bool) (last : Option (List (ℕ × Event))) (vs : List Stored) (was : Option ℕ) (us : List Stored) (q : List SentPacket) (master : Option ℕ) (next : Option (List (ℕ × Event))) : Type 0 where
  pub stood : IsStood G vs us q c b
  pub turns : TakeTurns vs us last next
  pub unled : b ≡ true → master ≡ None
  pub book : KeepsBook vs was us master

-- its votes were delivered: who leads told nothing since
pub record HasPolled (G : Setting) (b : Bool) (last : Option (List (ℕ × Event))) (vs us : List Stored) (q : List SentPacket) (master : Option ℕ) (next : Option (List (ℕ × Event))) : Type 0 where
  pub none : q ≡ []
  pub turns : TakeTurns vs us last next
  pub decided : IsDecided G vs us master b
  pub unled : b ≡ false → master ≡ None
  pub untold : IsUntold us master

-- a leader's first entry is under way; or its store failed
pub record HasShippedSetup (m : ℕ) (b : Bool) (last : Option (List (ℕ × Event))) (vs us : List Stored) (q : List SentPacket) (master : Option ℕ) (next : Option (List (ℕ × Event))) : Type 0 where
  pub shipped : IsSetUp vs us q master m b
  pub turns : TakeTurns vs us last next
  pub reigns : AllReign vs us
  pub unled : b ≡ false → master ≡ None

-- it was delivered
pub record HasLog (G : Setting) (b : Bool) (last : Option (List (ℕ × Event))) (vs : List Stored) (was : Option ℕ) (us : List Stored) (q : List SentPacket) (master : Option ℕ) (next : Option (List (ℕ × Event))) : Type 0 where
  pub none : q ≡ []
  pub turns : TakeTurns vs us last next
  pub kept : IsKept G vs was us master b
  pub untold : IsUntold vs was → IsUntold us master

-- an election is over
pub record HasElected (G : Setting) (b : Bool) (last : Option (List (ℕ × Event))) (vs us : List Stored) (q : List SentPacket) (master : Option ℕ) (ledger : Book) (next : Option (List (ℕ × Event))) : Type 0 where
  pub none : q ≡ []
  pub turns : TakeTurns vs us last next
  pub decided : IsDecided G vs us master b
  pub book : IsMastersBook us master ledger
