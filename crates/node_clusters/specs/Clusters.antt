-- The nodes of a run with what is under way between them, where one of them may be known to lead.
use Rattle.std.specs.Prelude.{ℕ, ◌≡◌, ◌<◌, ◌≤◌, ◌⊎◌, true, false, Option, None, Some, List, length, IfSome}
use Rattle.core_lists.specs.Majorities.{count}
use Rattle.cluster_events.specs.Settings.{Setting}
use Rattle.node_clusters.specs.Numbers.{numbers}
use Rattle.node_clusters.specs.Passes.{PassAll}
use Rattle.node_clusters.specs.Places.{votes}
use Rattle.node_state.specs.Packets.{SentPacket}
use Rattle.node_state.specs.Stores.{Stored}
use Rattle.quiet_cluster.specs.Led.{Led, NobodyAbove}
use Rattle.quiet_cluster.specs.Polled.{IsMajorityUp}
use Rattle.quiet_cluster.specs.Quiet.{Quiet}

-- m leads with its whole log, and whoever is up and promised no more has it, or will
abbrev pub IsLedBy : Setting → List Stored → List SentPacket → ℕ → Type 0
IsLedBy G vs q m = Led G.nodes (votes vs) (numbers q) m (votes vs m).accepted (votes vs m).length

-- the nodes of a run, each at its place
pub record ArePlaced (G : Setting) (vs : List Stored) : Type 0 where
  pub size : length vs ≡ G.nodes
  pub few : G.nodes ≤ 7
  pub placed : (k : ℕ) → 0 < k → k ≤ G.nodes → (votes vs k).node ≡ k

-- so with what is under way; and where one is known to lead, it does
pub record IsCluster (G : Setting) (vs : List Stored) (q : List SentPacket) (master : Option ℕ) : Type 0 where
  pub nodes : ArePlaced G vs
  pub led : IfSome master (λ m. IsLedBy G vs q m)

-- a number of one of the nodes
abbrev pub HasPlace : List Stored → ℕ → Type 0
HasPlace vs k = (0 < k) × (k ≤ length vs)

-- it is known who leads, and nobody that is up promised above
abbrev pub IsAlone : List Stored → Option ℕ → Type 0
IsAlone vs None = ⊥
IsAlone vs (Some m) = NobodyAbove (votes vs) (votes vs m).accepted

-- it is known who leads, and all is quiet
abbrev pub IsQuiet : Setting → List Stored → Option ℕ → Type 0
IsQuiet G vs None = ⊥
IsQuiet G vs (Some m) = Quiet G.nodes (votes vs) m (votes vs m).accepted (votes vs m).length

abbrev pub HasMajority : Setting → List Stored → Type 0
HasMajority G vs = IsMajorityUp G.nodes (votes vs)

-- how many are up
abbrev pub up_count : List Stored → ℕ
up_count vs = count (length vs) (λ k. (votes vs k).up)

-- who led, where it is up still
abbrev pub IsStill : List Stored → Option ℕ → Option ℕ → Type 0
IsStill vs None result = result ≡ None
IsStill vs (Some m) result = (((votes vs m).up ≡ true) × (result ≡ Some m)) ⊎ (((votes vs m).up ≡ false) × (result ≡ None))

-- who led, where it is another node
abbrev pub IsOther : Option ℕ → ℕ → Option ℕ → Type 0
IsOther None k result = result ≡ None
IsOther (Some m) k result = ((m ≡ k → ⊥) × (result ≡ Some m)) ⊎ ((m ≡ k) × (result ≡ None))

-- nodes that did something, and are a cluster still
pub record IsAfter (G : Setting) (vs us : List Stored) (q : List SentPacket) (master : Option ℕ) : Type 0 where
  pub cluster : IsCluster G us q master
  pub passed : PassAll vs us
