-- The nodes of a cluster as `play` sees them: what each holds, which of them leads, and what a store keeps that fails.
--
-- A node holds what it promised and accepted, and its log, whose entries are told as a report tells them. A node that is down
-- holds what it acknowledged, and its store keeps what it comes up with: the same behind a stop; behind a fault one of the three
-- that the call which failed may leave. So what is reported of it and what it comes up with are two things.
use Rattle.std.specs.Prelude.{ℕ, zero, suc, ◌+◌, ◌-◌, ◌*◌, ◌==◌, ◌&&◌, ◌++◌, ◌∷◌, [], List, Bool, true, false, Option, Some, None, if◌then◌else◌, ltb}
use Rattle.report_text.specs.declared.reports.EntryLine.{EntryLine}

-- what a node holds
pub record Holding : Type 0 where
  pub promised : ℕ
  pub accepted : ℕ
  pub log : List EntryLine

-- a node: whether it is up, and came up in this run; what it holds; what its store keeps while it is down; the generations in
-- which it accepted a log in this run, and the one in which it will have, where it comes up with what a failed call wrote
pub record Peer : Type 0 where
  pub up : Bool
  pub came : Bool
  pub has : Holding
  pub keeps : Holding
  pub accepts : List ℕ
  pub late : List ℕ

-- what a store keeps of the call that failed: nothing, the promise alone, or all of it
pub data Remains : Type 0 where
  AsBefore : Remains
  WithPromise : Remains
  WithAll : Remains

-- the store of a node fails: at the call behind so many that succeed, and it keeps that
pub record Fall : Type 0 where
  pub node : ℕ
  pub behind : ℕ
  pub remains : Remains

-- a node goes down, by a fault or not, or comes up
pub data Switch : Type 0 where
  Fell : ℕ → Bool → Switch
  Rose : ℕ → Switch

-- a node leads in a generation, with a log of that length
pub record Reign : Type 0 where
  pub generation : ℕ
  pub adopted : ℕ

-- all nodes, by their numbers from 1; the one that leads; who led in the run; the falls to come, and what was told of nodes
pub record Peers : Type 0 where
  pub all : List Peer
  pub master : Option ℕ
  pub reigns : List Reign
  pub falls : List Fall
  pub told : List Switch

-- what is done where a test holds of the nodes, and else
abbrev pub branch : Bool → (Peers → Peers) → (Peers → Peers) → Peers → Peers
branch true act other p = act p
branch false act other p = other p

abbrev pub one_of : (Peers → Bool) → (Peers → Peers) → (Peers → Peers) → Peers → Peers
one_of test act other p = branch (test p) act other p

abbrev pub provided : (Peers → Bool) → (Peers → Peers) → Peers → Peers
provided test act p = branch (test p) act (λ q. q) p

-- who has no place is down
abbrev pub no_peer : Peer
no_peer = record { up = false; came = false; has = record { promised = 0; accepted = 0; log = [] }; keeps = record { promised = 0; accepted = 0; log = [] }; accepts = []; late = [] }

-- the node of a number, and all nodes with another one in its place
abbrev pub peer_in : List Peer → ℕ → Peer
peer_in [] k = no_peer
peer_in (v ∷ vs) zero = no_peer
peer_in (v ∷ vs) (suc zero) = v
peer_in (v ∷ vs) (suc (suc k)) = peer_in vs (suc k)

abbrev pub put_in : List Peer → ℕ → Peer → List Peer
put_in [] k new = []
put_in (v ∷ vs) zero new = v ∷ vs
put_in (v ∷ vs) (suc zero) new = new ∷ vs
put_in (v ∷ vs) (suc (suc k)) new = v ∷ put_in vs (suc k) new

abbrev pub peer_at : Peers → ℕ → Peer
peer_at p k = peer_in p.all k

abbrev pub is_up_in : Peers → ℕ → Bool
is_up_in p k = (peer_at p k).up

abbrev pub holding_at : Peers → ℕ → Holding
holding_at p k = (peer_at p k).has

abbrev pub log_at : Peers → ℕ → List EntryLine
log_at p k = (holding_at p k).log

-- the numbers from 1 to n
abbrev pub numbers_to : ℕ → List ℕ
numbers_to zero = []
numbers_to (suc n) = numbers_to n ++ suc n ∷ []

-- how many nodes pass a test; and whether more than half of n do
abbrev pub how_many : (Peer → Bool) → List Peer → ℕ
how_many q [] = 0
how_many q (v ∷ vs) = (if q v then 1 else 0) + how_many q vs

abbrev pub are_most : ℕ → (Peer → Bool) → Peers → Bool
are_most n q p = ltb n (2 * how_many q p.all)

-- whether a majority is up
abbrev pub is_majority_up : ℕ → Peers → Bool
is_majority_up n p = are_most n (λ v. v.up) p

-- no node in the place of one that goes down, or promises above its own generation
abbrev pub master_but : ℕ → Option ℕ → Option ℕ
master_but k None = None
master_but k (Some m) = if m == k then None else Some m

-- what a store keeps of a call that was to leave the node with `next`
abbrev pub remains_of : Remains → Holding → Holding → Holding
remains_of AsBefore was next = was
remains_of WithPromise was next = record { promised = next.promised; accepted = was.accepted; log = was.log }
remains_of WithAll was next = next

-- in which generation it accepts, once it comes up with what was left
abbrev pub late_by : Remains → Bool → ℕ → List ℕ
late_by AsBefore accepting generation = []
late_by WithPromise accepting generation = []
late_by WithAll accepting generation = if accepting then generation ∷ [] else []

-- a node whose store took a call, one whose store failed in it, and one that is stopped
abbrev pub stored : Holding → Bool → Peer → Peer
stored next accepting v = record {
  up = v.up;
  came = v.came;
  has = next;
  keeps = next;
  accepts = if accepting then v.accepts ++ next.accepted ∷ [] else v.accepts;
  late = [];
}

abbrev pub failed : Remains → Holding → Bool → Peer → Peer
failed remains next accepting v = record {
  up = false;
  came = v.came;
  has = v.has;
  keeps = remains_of remains v.has next;
  accepts = v.accepts;
  late = late_by remains accepting next.accepted;
}

abbrev pub stopped_peer : Peer → Peer
stopped_peer v = record { up = false; came = v.came; has = v.has; keeps = v.has; accepts = v.accepts; late = [] }

-- one that comes up with what its store keeps
abbrev pub risen : Peer → Peer
risen v = record { up = true; came = true; has = v.keeps; keeps = v.keeps; accepts = v.accepts ++ v.late; late = [] }

-- whether the next fall is due at a call of a node's store; and the falls behind that call
abbrev pub due : ℕ → List Fall → Option Remains
due k [] = None
due k (f ∷ fs) = if (f.node == k) && (f.behind == 0) then Some f.remains else None

abbrev pub behind_call : ℕ → List Fall → List Fall
behind_call k [] = []
behind_call k (f ∷ fs) = if f.node == k then (if f.behind == 0 then fs else record { node = f.node; behind = f.behind - 1; remains = f.remains } ∷ fs) else f ∷ fs

-- the nodes with another master
abbrev pub with_master : Option ℕ → Peers → Peers
with_master m p = record { all = p.all; master = m; reigns = p.reigns; falls = p.falls; told = p.told }

-- the falls that are left behind a call of a node's store
abbrev pub called : ℕ → Peers → Peers
called k p = record { all = p.all; master = p.master; reigns = p.reigns; falls = behind_call k p.falls; told = p.told }

-- a node has changed, and that is told
abbrev pub switched : ℕ → Peer → List Switch → Peers → Peers
switched k new told p = record { all = put_in p.all k new; master = p.master; reigns = p.reigns; falls = p.falls; told = p.told ++ told }

-- a node goes down so
abbrev pub goes_down : ℕ → Bool → Peer → Peers → Peers
goes_down k fault new p = with_master (master_but k p.master) (switched k new (Fell k fault ∷ []) p)

-- its store is called so that it holds `next`, and accepts by it or not
abbrev pub call_by : Option Remains → ℕ → Holding → Bool → Peers → Peers
call_by None k next accepting p = called k (switched k (stored next accepting (peer_at p k)) [] p)
call_by (Some remains) k next accepting p = called k (goes_down k true (failed remains next accepting (peer_at p k)) p)

abbrev pub call : ℕ → Holding → Bool → Peers → Peers
call k next accepting p = call_by (due k p.falls) k next accepting p

-- a node that is up is stopped
abbrev pub stop_one : ℕ → Peers → Peers
stop_one k p = goes_down k false (stopped_peer (peer_at p k)) p
